pub mod Sealed
pub mod Hinting
pub mod Putting
