pub mod Sets
pub mod SetsLaws
pub mod TestLaws
pub mod MarksLaws
