pub mod Known
pub mod FileFacts
