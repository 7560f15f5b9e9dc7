pub mod Words
pub mod Faults
pub mod Access
pub mod StepWords
