pub mod Explained
pub mod Indexed
pub mod Faults
pub mod Lines
pub mod Steps
pub mod ExplainedNeeds
