pub mod Ledgers
pub mod Recording
pub mod Opening
