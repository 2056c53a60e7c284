pub mod BitLaws
pub mod SweepLaws
pub mod RowLaws
