pub mod Advances
pub mod Counting
pub mod Extending
pub mod References
pub mod Storing
pub mod Tries
pub mod Walks
