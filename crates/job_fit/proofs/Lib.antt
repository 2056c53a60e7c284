pub mod AreaLaws
pub mod FitLaws
