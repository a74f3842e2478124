pub mod Tlv
pub mod Split
pub mod Walking
