pub mod Store
pub mod Keyed
pub mod Kept
pub mod RowsThere
