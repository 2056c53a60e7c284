pub mod LastLaws
pub mod ColumnLaws
