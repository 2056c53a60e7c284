-- What the functions here promise each other. No public promise names these.
pub mod Checks
pub mod Flow
pub mod Line
pub mod Work
