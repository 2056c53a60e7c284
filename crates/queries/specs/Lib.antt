pub mod Entry
pub mod Shares
pub mod Seen
