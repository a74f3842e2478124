pub mod Zeros
pub mod Fields
pub mod Obeys
