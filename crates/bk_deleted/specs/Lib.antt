pub mod Lines
pub mod Deleting
pub mod Noting
pub mod Present
