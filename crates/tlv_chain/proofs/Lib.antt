pub mod SplitFacts
pub mod Steps
pub mod Walks
