pub mod EntryLaws
pub mod OrderLaws
