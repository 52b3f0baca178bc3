pub mod Causes
pub mod OwnOrder
pub mod Orders
