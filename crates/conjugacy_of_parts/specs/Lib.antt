pub mod Outcomes
pub mod Parts
pub mod TurnLaws
pub mod PartLaws
