pub mod Sealing
pub mod Leaving
