pub mod CoreVerdict
pub mod ProgramLaws
