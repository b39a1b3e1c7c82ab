pub mod Compacted
pub mod Sizes
