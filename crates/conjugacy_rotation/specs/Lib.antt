pub mod Blocks
pub mod SearchLaws
