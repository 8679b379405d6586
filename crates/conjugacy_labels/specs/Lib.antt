-- The labels of commands, merged where commands conflict.
pub mod Labels
pub mod Merge
pub mod MergeLaws
