pub mod Faults
pub mod Turn
pub mod Tally
pub mod Work
pub mod Accounts
pub mod Buffers
pub mod Retired
