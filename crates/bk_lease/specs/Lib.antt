pub mod Leases
pub mod Slots
pub mod Steps
pub mod Values
pub mod Codes
