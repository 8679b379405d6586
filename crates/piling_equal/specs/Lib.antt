pub mod PassedLaws
pub mod EqualLaws
pub mod Comparing
pub mod ComparingLaws
