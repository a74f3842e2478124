pub mod Cases
pub mod Firsts
pub mod Plans
pub mod SubTlvs
