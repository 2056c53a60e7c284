pub mod Prepared
pub mod Inner
