pub mod Layout
pub mod Written
pub mod Views
pub mod Legal
pub mod Passes
pub mod Meanings
pub mod Closing
