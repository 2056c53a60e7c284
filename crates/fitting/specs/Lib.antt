pub mod Wants
pub mod Plan
pub mod Lowest
pub mod Queries
pub mod Layout
pub mod Inner
