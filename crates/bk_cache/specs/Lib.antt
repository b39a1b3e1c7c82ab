pub mod Caches
pub mod Recents
pub mod Transitions
pub mod Sorted
pub mod Rows
pub mod Invariant
