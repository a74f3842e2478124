pub mod Buffers
pub mod Replay
pub mod Command
pub mod Answering
pub mod Taking
pub mod Decides
pub mod Spelled
