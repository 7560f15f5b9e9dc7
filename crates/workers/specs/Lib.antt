pub mod Placing
pub mod Working
pub mod Faults
