pub mod Staying
pub mod ThreeLinks
