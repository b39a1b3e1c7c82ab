pub mod Adds
pub mod Passes
pub mod Receipts
pub mod Guarded
pub mod Calls
pub mod Works
pub mod LedgerReads
pub mod Counting
