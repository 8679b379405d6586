pub mod CoreLetters
pub mod CoreLettersLaws
