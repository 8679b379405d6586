pub mod Peeling
pub mod PairLaws
pub mod SliceLaws
pub mod EndLaws
pub mod PeelLaws
pub mod PeeledLaws
