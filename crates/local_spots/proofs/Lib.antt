pub mod Bounds
pub mod ChainLaws
pub mod WalkLaws
pub mod FetchLaws
pub mod OrderLaws
