pub mod AxisLaws
pub mod RowLaws
