pub mod Bytes
pub mod Letters
