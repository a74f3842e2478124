pub mod Places
pub mod Going
pub mod Decides
pub mod Spelled
