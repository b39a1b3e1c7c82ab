pub mod Division
pub mod Checksum
pub mod Holds
pub mod Table
pub mod Values
