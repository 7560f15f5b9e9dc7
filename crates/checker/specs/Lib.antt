pub mod Admission
pub mod Missing
