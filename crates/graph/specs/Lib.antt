pub mod Paths
pub mod Flow
pub mod Line
pub mod Work
pub mod Checks
pub mod Rounds
pub mod Inner
