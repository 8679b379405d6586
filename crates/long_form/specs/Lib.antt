-- The normal form of a long word: what it asks and gives.
pub mod FormLaws
pub mod Forming
pub mod FormingLaws
