pub mod TestLaws
pub mod ColumnLaws
pub mod UniteLaws
