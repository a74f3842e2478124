pub mod Steps
pub mod Numbers
pub mod Endpoints
pub mod Names
pub mod NameArray
