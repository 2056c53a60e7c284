pub mod MovedEntry
pub mod OrderLaws
pub mod Corners
