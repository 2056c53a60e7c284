pub mod Ways
pub mod Entries
