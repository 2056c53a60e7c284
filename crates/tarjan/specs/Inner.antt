-- What the functions here promise each other. No public promise names these.
pub mod Components
pub mod Graph
pub mod Moves
pub mod Space
pub mod Walk
