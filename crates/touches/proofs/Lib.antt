pub mod Bounds
pub mod RegisterLaws
pub mod EntryLaws
pub mod TouchLaws
