pub mod Timestamp
pub mod Timeout
