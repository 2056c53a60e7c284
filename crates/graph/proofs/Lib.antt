pub mod Corners
pub mod Sums
pub mod Counting
pub mod Line
pub mod Within
pub mod RoundLaws
pub mod ArriveLaws
pub mod CheckLaws
