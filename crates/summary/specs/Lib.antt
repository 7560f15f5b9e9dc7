pub mod Lines
pub mod Counts
pub mod Tallied
pub mod Texts
pub mod Given
pub mod Handed
pub mod Summary
