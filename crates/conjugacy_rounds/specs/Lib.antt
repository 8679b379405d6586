pub mod Apexes
pub mod ApexesLaws
pub mod Counting
pub mod CountingLaws
pub mod WholeLaws
