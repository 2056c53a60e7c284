pub mod CheckLaws
pub mod OrderLaws
pub mod EntryLaws
pub mod Paths
