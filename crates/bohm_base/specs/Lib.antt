pub mod Collecting
pub mod Faults
pub mod Pending
pub mod Places
