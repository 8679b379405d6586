-- Reading the stacks of a long word off.
pub mod Reading
pub mod ReadLaws
