pub mod Ends
pub mod Last
pub mod Once
pub mod Writers
pub mod Placed
pub mod Merged
pub mod Few
pub mod Going
