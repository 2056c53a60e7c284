pub mod WalkLaws
pub mod BeginLaws
pub mod PlaceLaws
pub mod FollowLaws
pub mod KeptLaws
