pub mod Product
pub mod ProductLaws
