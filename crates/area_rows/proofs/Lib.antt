pub mod PutLaws
pub mod MarkLaws
pub mod ColumnLaws
