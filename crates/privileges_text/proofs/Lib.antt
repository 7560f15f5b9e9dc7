pub mod Ended
pub mod Told
