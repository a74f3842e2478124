pub mod AnswerFacts
pub mod ApartFacts
pub mod StreamFacts
