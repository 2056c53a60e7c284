pub mod VerdictLaws
pub mod OrderLaws
