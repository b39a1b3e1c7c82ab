pub mod Reading
pub mod Adding
pub mod Flushing
pub mod Gaining
