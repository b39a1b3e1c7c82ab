pub mod Heads
pub mod Collecting
pub mod Truths
pub mod Using
pub mod Sampling
pub mod Sealing
