pub mod Padding
pub mod Undoing
