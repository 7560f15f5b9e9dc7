pub mod AskFaults
pub mod Boxes
pub mod Fronts
pub mod NamedKinds
pub mod Values
