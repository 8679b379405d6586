pub mod Scanned
pub mod MeasuredLaws
pub mod WriteOutLaws
