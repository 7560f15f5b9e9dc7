pub mod Steps
pub mod Judging
pub mod Finding
pub mod Outcomes
