pub mod Whole
pub mod ReadAgain
pub mod ModeFacts
