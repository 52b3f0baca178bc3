pub mod Appended
pub mod Counted
pub mod Digits
pub mod Finishing
pub mod Writing
