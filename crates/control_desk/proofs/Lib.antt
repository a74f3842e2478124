pub mod Following
pub mod NameFacts
pub mod Choices
pub mod OperatorFacts
pub mod OwnFacts
pub mod RequestFacts
pub mod TalkFacts
pub mod IndexFacts
pub mod RunFacts
pub mod IdleFacts
pub mod Samples
mod HandsFacts
