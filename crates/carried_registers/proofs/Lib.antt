pub mod UpLaws
pub mod CarriedLaws
pub mod OrderLaws
