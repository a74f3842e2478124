pub mod Modes
pub mod Codes
pub mod Layout
pub mod Reads
