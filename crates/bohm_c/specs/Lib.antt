pub mod Asked
pub mod Held
pub mod Statuses
