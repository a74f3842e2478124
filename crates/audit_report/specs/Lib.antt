pub mod Fronts
pub mod Verdicts
pub mod Runs
pub mod Decides
