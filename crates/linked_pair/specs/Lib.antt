pub mod Links
pub mod Pair
