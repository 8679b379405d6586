pub mod Measured
pub mod CappedLaws
pub mod KnownLaws
pub mod PartLaws
pub mod SofarLaws
pub mod CommandLaws
