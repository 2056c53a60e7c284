pub mod Steps
pub mod Lists
pub mod Turns
pub mod Roots
pub mod Bounds
