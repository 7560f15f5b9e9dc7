pub mod Versions
pub mod Grantees
pub mod Statement
pub mod Fault
pub mod Parsing
pub mod LineBuffers
