pub mod SlottingLaws
