pub mod Causes
pub mod DeskFaults
pub mod PortFaults
pub mod Decides
