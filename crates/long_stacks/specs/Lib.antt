pub mod Linked
pub mod LinkedLaws
pub mod Moves
pub mod Empty
pub mod MeetsLaws
pub mod StacksLaws
