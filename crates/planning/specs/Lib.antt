pub mod Program
pub mod Answer
pub mod Named
pub mod Groups
pub mod Inner
