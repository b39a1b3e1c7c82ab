pub mod Records
pub mod Importing
