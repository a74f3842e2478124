pub mod Passes
pub mod Empty
pub mod Modes
pub mod Usual
