-- The order that conflicts leave the letters of a word: numberings that keep it, and which letters stay before which.
-- A definition file is short and computes; its laws stand in the file of the same name with Laws.
pub mod Levels
pub mod LevelsLaws
pub mod Precedence
pub mod PrecedenceLaws
