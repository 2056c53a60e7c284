pub mod Axis
pub mod Rows
pub mod Inner
