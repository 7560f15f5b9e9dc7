pub mod Room
pub mod Words
pub mod Places
