pub mod Table
pub mod Limiting
pub mod Recording
pub mod Opening
pub mod Adding
