pub mod Places
pub mod Pairing
pub mod PlacesLaws
pub mod StepLaws
pub mod PairingLaws
