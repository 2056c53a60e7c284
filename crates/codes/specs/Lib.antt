pub mod Codes
pub mod Inner
