pub mod DigitLaws
pub mod BitLaws
pub mod WordLaws
