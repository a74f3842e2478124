pub mod Ports
pub mod Posts
pub mod Phases
pub mod Live
pub mod Served
pub mod Opening
pub mod Running
pub mod Named
