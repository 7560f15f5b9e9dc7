pub mod Options
pub mod Places
pub mod Privileges
pub mod Running
pub mod Shapes
pub mod Ways
pub mod Words
pub mod Tasks
