pub mod Lines
pub mod Loading
pub mod Writing
pub mod Checking
pub mod Decides
