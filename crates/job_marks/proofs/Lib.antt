pub mod MarkLaws
pub mod SweepLaws
