pub mod PlaceLaws
pub mod AllLaws
