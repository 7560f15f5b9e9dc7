pub mod Pushing
pub mod Placed
pub mod Standing
