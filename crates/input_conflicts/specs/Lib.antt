pub mod ChainLaws
pub mod Known
pub mod KnownLaws
pub mod MarkedRows
pub mod MarkedRowsLaws
pub mod ReadingLaws
pub mod Reading
