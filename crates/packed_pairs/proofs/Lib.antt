pub mod UnitedLaws
