pub mod Stream
pub mod Connection
pub mod Table
pub mod Talk
