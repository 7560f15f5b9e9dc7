pub mod Lines
pub mod FedTexts
pub mod FedExplained
pub mod FedListed
pub mod Feeding
pub mod Counts
