pub mod Line
pub mod Numbers
pub mod Text
pub mod Script
pub mod Run
