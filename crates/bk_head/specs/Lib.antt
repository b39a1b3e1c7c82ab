pub mod Header
pub mod Ledgers
pub mod Written
pub mod Faults
pub mod Reading
pub mod Parts
