pub mod Halving
pub mod HalvingLaws
pub mod Settling
pub mod SettlingLaws
