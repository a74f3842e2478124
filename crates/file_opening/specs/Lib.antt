pub mod Opening
pub mod Opened
pub mod OpenedFirst
pub mod Used
