pub mod Left
pub mod TotalLaws
pub mod TallyLaws
pub mod TrimmedLaws
pub mod CloseLaws
pub mod BlankLaws
pub mod LeftLaws
