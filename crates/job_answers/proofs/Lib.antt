pub mod TableLaws
pub mod SeenLaws
