pub mod Corners
pub mod ListLaws
pub mod Examples
pub mod CarryLaws
