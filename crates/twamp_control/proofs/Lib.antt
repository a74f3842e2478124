pub mod Streams
pub mod Feeding
pub mod Cuts
pub mod Client
pub mod Rows
pub mod Talks
