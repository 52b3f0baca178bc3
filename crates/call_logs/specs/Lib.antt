pub mod LogMessages
pub mod MessageDeeds
pub mod Following
pub mod CallBytes
pub mod Roles
pub mod CallsBoard
pub mod CallsLaw
