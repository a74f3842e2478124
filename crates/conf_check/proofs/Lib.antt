mod Samples
pub mod Decides
