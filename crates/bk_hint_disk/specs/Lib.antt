pub mod Hints
pub mod Truth
pub mod Usable
pub mod Hinting
