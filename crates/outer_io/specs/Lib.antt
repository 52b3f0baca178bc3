pub mod Calls
pub mod Faults
pub mod Memory
pub mod Puts
pub mod Writes
