-- Where a search may start (Starts), and laws: how it is counted, and that no row below it has become ready.
pub mod Starts
pub mod StartsLaws
