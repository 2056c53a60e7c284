pub mod Demand
pub mod Paths
pub mod Seen
pub mod ReadBack
pub mod Orders
