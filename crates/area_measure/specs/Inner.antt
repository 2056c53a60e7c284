-- What the functions here promise each other. No public promise names these.
pub mod Locals
pub mod Measure
