pub mod Checked
pub mod Sound
pub mod SoundLaws
