pub mod CodeLaws
pub mod IndexLaws
