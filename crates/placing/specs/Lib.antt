pub mod Parts
pub mod Latest
pub mod Tables
pub mod Refs
pub mod Laws
