pub mod Faults
pub mod Planning
pub mod Stages
pub mod Sweeping
