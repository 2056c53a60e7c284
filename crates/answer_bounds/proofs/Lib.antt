pub mod Steps
pub mod GraphBounds
pub mod AreaBounds
pub mod CarryBounds
pub mod PlanBounds
pub mod JobBounds
pub mod QueryBounds
pub mod RangeBounds
