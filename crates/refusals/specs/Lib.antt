pub mod Verdicts
pub mod Orders
pub mod Outcomes
