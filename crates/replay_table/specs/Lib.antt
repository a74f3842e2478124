pub mod Table
pub mod Reflection
pub mod Outcomes
pub mod Apart
