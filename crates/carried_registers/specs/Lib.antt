pub mod Carried
pub mod Inner
