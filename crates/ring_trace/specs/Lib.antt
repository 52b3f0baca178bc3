pub mod ImageFaults
pub mod WordImage
pub mod Writes
pub mod BothSides
pub mod SoundImages
