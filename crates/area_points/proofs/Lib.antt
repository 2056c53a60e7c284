pub mod KindLaws
pub mod SlotLaws
pub mod ItemLaws
pub mod PartLaws
