pub mod Compacting
pub mod JobSteps
pub mod Fronts
