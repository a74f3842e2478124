pub mod LogFacts
pub mod PortFacts
pub mod DeskFacts
