pub mod State
pub mod Plan
pub mod Operator
pub mod Connections
pub mod Control
pub mod Run
pub mod Faults
pub mod Hands
