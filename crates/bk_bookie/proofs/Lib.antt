pub mod Keyed
pub mod Counts
pub mod Told
pub mod Gives
pub mod Works
pub mod Leases
