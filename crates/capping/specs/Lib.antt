pub mod Cap
pub mod Inner
