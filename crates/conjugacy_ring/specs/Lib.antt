pub mod PartLaws
pub mod Ring
pub mod RingLaws
pub mod SortedLaws
