pub mod MatchLaws
pub mod WordLaws
pub mod PlaceLaws
pub mod AddressFacts
