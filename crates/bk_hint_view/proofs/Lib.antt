pub mod Rests
pub mod Truths
pub mod JoinedRuns
