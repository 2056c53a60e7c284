pub mod FlowLaws
pub mod BlockRows
pub mod ClearLaws
