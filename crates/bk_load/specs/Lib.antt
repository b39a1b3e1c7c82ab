pub mod Answers
pub mod Before
pub mod Known
pub mod Missing
pub mod Ranks
pub mod Reported
pub mod Sums
pub mod Verdict
