pub mod Log
pub mod Port
pub mod ScriptPort
pub mod Desk
pub mod ScriptDesk
pub mod PortShown
pub mod DeskShown
