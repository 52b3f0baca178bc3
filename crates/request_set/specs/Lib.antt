pub mod Requests
pub mod InSet
