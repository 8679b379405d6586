-- Reading a piling off: what is left of it and what reading yields (Reading), and laws.
pub mod Reading
pub mod ReadyLaws
pub mod LeftLaws
pub mod ReadLaws
pub mod PiledLaws
