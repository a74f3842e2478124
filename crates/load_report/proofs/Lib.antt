pub mod AnswerCodes
pub mod LoadFacts
pub mod Going
pub mod Samples
pub mod Decides
