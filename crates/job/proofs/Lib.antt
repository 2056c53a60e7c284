pub mod CheckLaws
pub mod OrderLaws
pub mod EntryLaws
pub mod Demand
pub mod Paths
pub mod Seen
