pub mod KeptLaws
pub mod SlotLaws
pub mod LocalLaws
pub mod SolveLaws
