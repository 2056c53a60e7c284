pub mod MergingLaws
