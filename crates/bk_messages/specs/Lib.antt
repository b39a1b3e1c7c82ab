pub mod Disks
pub mod Kinds
pub mod Quiet
pub mod Rows
pub mod Ways
