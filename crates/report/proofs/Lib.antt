pub mod Readings
pub mod ReportLemmas
pub mod Denials
pub mod Spelled
