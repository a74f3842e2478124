pub mod Matching
pub mod Words
pub mod Placing
