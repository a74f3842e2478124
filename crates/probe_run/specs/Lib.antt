pub mod Turns
pub mod Ends
pub mod Runs
pub mod Counters
pub mod Steps
pub mod Plan
pub mod Lines
pub mod Telling
