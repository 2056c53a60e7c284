pub mod PushLaws
pub mod HullLaws
pub mod SpanLaws
pub mod SweepLaws
pub mod PlaceLaws
pub mod LineLaws
pub mod RunLaws
pub mod AreaLaws
