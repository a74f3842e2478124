pub mod Records
pub mod InnerReading
pub mod View
pub mod Codes
pub mod Answers
pub mod Whole
