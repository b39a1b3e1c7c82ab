pub mod Books
pub mod Failures
pub mod Openings
