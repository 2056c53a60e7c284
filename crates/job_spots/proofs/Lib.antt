pub mod SpotLaws
pub mod FollowLaws
pub mod FetchLaws
