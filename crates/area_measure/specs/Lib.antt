pub mod Locals
pub mod Inner
