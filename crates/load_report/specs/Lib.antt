pub mod Kinds
pub mod Counting
pub mod Report
pub mod Decides
