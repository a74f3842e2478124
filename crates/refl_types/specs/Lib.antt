pub mod Keys
pub mod Configs
pub mod Spelling
pub mod Same
pub mod HmacKey
pub mod Limits
