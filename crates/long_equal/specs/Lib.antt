-- The comparison of two products: what it asks and tells.
pub mod Comparing
pub mod ComparingLaws
