pub mod BitFacts
pub mod SameFacts
pub mod TlvFacts
