pub mod Ways
pub mod HoldersText
pub mod HistoryText
pub mod Questions
