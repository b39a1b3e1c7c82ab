pub mod Growing
pub mod Listings
pub mod Sets
