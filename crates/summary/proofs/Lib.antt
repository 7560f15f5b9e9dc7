pub mod CountLemmas
pub mod CutLemmas
pub mod Pieces
pub mod TextLemmas
pub mod Reported
pub mod Summed
