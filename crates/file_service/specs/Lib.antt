pub mod Ends
pub mod Service
pub mod Decides
