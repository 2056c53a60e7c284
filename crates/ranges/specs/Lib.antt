pub mod Points
pub mod Merged
pub mod Forms
pub mod Inner
pub mod Lent
