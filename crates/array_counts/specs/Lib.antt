pub mod Blank
pub mod BlankLaws
pub mod First
pub mod FirstLaws
pub mod Heights
pub mod HeightsLaws
pub mod MeetsLaws
