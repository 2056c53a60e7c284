pub mod CheckLaws
pub mod OperandLaws
pub mod AssignedLaws
pub mod PositionLaws
pub mod Corners
