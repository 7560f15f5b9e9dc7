pub mod Holders
pub mod Spans
pub mod Joining
