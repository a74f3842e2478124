pub mod Heads
pub mod Integrity
pub mod Sealing
pub mod InnerSteps
