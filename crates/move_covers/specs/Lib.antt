pub mod Wrote
pub mod Inner
