pub mod PartOf
pub mod PartOfLaws
