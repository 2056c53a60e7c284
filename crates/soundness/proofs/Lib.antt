pub mod Corners
pub mod MarkLaws
pub mod Agreement
pub mod Holding
pub mod MachineLaws
pub mod Demand
pub mod StarOne
pub mod Trials
