pub mod OrderLaws
pub mod EntryLaws
pub mod ReachLaws
