pub mod ApartLaws
pub mod OrderLaws
pub mod SeenLaws
