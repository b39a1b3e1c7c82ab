pub mod Flushing
pub mod Publishing
