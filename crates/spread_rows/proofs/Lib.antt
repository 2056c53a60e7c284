pub mod Sums
pub mod Kept
pub mod Pushes
pub mod Turns
pub mod Bounds
