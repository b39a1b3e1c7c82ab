pub mod Known
pub mod Ledgers
pub mod Looking
pub mod Past
