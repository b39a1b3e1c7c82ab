pub mod Dividing
pub mod Remainders
pub mod Words
pub mod Tables
pub mod Values
