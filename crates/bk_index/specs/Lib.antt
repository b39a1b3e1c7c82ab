pub mod Keyed
pub mod Sorted
pub mod Pages
pub mod Packed
pub mod Forms
pub mod Runs
pub mod Building
pub mod Passing
