pub mod Collecting
pub mod Rebuilding
