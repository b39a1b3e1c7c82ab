pub mod BookLaws
pub mod Books
pub mod CallerLaws
pub mod Choices
pub mod Entries
pub mod EntrySums
pub mod FromScratch
pub mod Histories
pub mod Listings
pub mod LogAccounts
pub mod ManyCalls
pub mod Maps
pub mod Ratios
pub mod Rooms
pub mod ValueSums
pub mod Tallies
mod Worked
pub mod LastCounts
