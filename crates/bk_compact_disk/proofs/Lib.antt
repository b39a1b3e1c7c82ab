pub mod Compacted
mod Sums
