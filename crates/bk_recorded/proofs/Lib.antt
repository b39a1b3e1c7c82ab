pub mod Listed
pub mod Ledgers
pub mod Steps
pub mod Fences
pub mod Once
pub mod Kept
