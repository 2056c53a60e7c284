pub mod Plans
pub mod Inner
