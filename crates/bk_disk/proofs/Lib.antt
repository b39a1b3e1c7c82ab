pub mod Cuts
pub mod InChunks
pub mod FileMaps
pub mod Listings
pub mod Answered
pub mod Failures
pub mod Bounds
pub mod Causes
pub mod Digits
pub mod DurableGrows
mod Doubts
pub mod Cutting
