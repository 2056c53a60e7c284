pub mod Lists
pub mod Insts
pub mod Carried
pub mod Checks
pub mod Inner
