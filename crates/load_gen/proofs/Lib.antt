pub mod StateFacts
pub mod RecordFacts
pub mod Samples
