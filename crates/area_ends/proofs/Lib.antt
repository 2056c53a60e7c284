pub mod EndPieceLaws
pub mod CoverLaws
pub mod ArriveLaws
pub mod EndAreaLaws
