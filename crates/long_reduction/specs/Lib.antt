-- The reduction of a long word on stacks.
pub mod Reducing
pub mod ReducingLaws
