pub mod GrowthFacts
pub mod TurnFacts
pub mod AccountFacts
pub mod RoundFacts
