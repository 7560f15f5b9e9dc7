pub mod Storage
pub mod Running
