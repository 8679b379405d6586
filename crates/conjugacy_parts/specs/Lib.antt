-- The letters of a word grouped by the labels of their commands.
pub mod Group
pub mod LetterLaws
pub mod CountLaws
pub mod GroupLaws
pub mod GroupedLaws
