pub mod Arrived
pub mod Base
pub mod Tail
pub mod Ends
pub mod Judgement
pub mod Reflection
