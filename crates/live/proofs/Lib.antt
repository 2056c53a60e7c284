pub mod LiveLaws
