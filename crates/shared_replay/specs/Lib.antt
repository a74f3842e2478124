pub mod Tracks
pub mod Following
pub mod Turn
pub mod Stands
