-- What the contracts speak of: lines, what calls did, and what a reader of lines holds.
pub mod Lines
pub mod Known
pub mod Ahead
pub mod Faults
pub mod Failures
