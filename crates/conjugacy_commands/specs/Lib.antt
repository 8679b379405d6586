-- The commands that occur in a word, as flags.
pub mod Flags
pub mod FlagsLaws
pub mod SeenLaws
