pub mod Reply
pub mod Deeds
pub mod Counting
pub mod Sending
pub mod Kept
pub mod State
pub mod Adding
