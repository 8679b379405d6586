pub mod DecimalLaws
pub mod Put
pub mod PutLaws
