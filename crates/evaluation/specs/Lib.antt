pub mod Answering
pub mod Ends
pub mod Judged
pub mod Keeping
pub mod ReadSource
pub mod Seen
pub mod Sought
