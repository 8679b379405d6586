pub mod Entry
pub mod EntryLaws
pub mod Passed
