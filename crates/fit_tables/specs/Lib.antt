pub mod Inner
pub mod WantTables
