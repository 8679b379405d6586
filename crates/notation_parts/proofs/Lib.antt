pub mod NoDigitLaws
