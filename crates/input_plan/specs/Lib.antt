pub mod FaultLaws
pub mod Place
pub mod Lettered
pub mod LetteredLaws
pub mod PlaceLaws
