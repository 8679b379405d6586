pub mod Numbers
pub mod PlaceLaws
pub mod DigitLaws
pub mod StepLaws
pub mod GroupLaws
