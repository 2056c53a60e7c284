pub mod Rows
pub mod Widths
pub mod Sort
pub mod Regions
pub mod Inner
