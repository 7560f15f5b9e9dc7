pub mod Replay
pub mod State
