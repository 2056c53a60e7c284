pub mod Numerals
pub mod Groups
pub mod Lines
pub mod Text
pub mod Inner
