pub mod Coring
pub mod CoringLaws
pub mod FormLaws
