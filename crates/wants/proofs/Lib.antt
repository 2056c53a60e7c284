pub mod Corners
pub mod TallyLaws
pub mod LoadLaws
pub mod ListLaws
pub mod EntryLaws
pub mod SeenLaws
pub mod OrderLaws
