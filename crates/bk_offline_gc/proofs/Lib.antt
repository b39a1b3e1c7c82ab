pub mod Copying
pub mod Counting
pub mod Leaving
pub mod Moving
pub mod NoKeys
pub mod Removed
pub mod Reporting
