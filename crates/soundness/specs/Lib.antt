pub mod Walks
pub mod Machine
pub mod Demand
pub mod Inner
