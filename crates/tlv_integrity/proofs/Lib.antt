pub mod Loops
pub mod Cases
