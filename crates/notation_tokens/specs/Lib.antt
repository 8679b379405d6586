pub mod Told
pub mod TokenLaws
