pub mod PutLaws
pub mod LineLaws
pub mod ShareLaws
pub mod PlanLaws
pub mod Stars
