pub mod Going
pub mod Dealing
