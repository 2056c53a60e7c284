pub mod Settling
pub mod Inner
