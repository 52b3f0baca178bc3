pub mod Bytes
pub mod Served
pub mod Handled
pub mod OnceLaw
pub mod Steps
pub mod Kept
