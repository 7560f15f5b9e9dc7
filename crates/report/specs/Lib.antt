pub mod Text
pub mod Records
pub mod Report
pub mod Denials
