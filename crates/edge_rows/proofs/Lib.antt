pub mod Tally
pub mod RowLaws
pub mod EdgeLaws
pub mod Bounds
