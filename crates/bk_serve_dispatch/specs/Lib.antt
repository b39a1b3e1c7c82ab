pub mod Frames
pub mod Greeting
pub mod Jobs
pub mod Rounds
pub mod Runs
pub mod Session
