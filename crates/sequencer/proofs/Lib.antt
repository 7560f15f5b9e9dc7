pub mod Apart
pub mod Beginnings
pub mod Bodies
pub mod Foretold
pub mod KnownTables
pub mod Learned
pub mod NameLemmas
pub mod NewNames
pub mod Parties
pub mod Passed
pub mod RefusalLemmas
pub mod Tested
pub mod WholeLogs
mod Rotated
mod Sent
