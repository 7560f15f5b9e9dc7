-- The lemmas that crates above use too.
pub mod Pieces
pub mod Written
pub mod LinesLaws
