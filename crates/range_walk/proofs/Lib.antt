pub mod Corners
pub mod PartLaws
pub mod WalkLaws
