-- Commands that all conflict with each other, told by flags.
pub mod Covered
pub mod CoveredLaws
