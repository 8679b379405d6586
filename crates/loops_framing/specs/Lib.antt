pub mod Frame
pub mod FramingLaws
pub mod FramingMet
