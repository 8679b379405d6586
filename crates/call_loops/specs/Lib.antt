pub mod LoopingLaws
