pub mod Blocks
pub mod Areas
pub mod Pieces
pub mod Slots
pub mod Job
pub mod Upright
