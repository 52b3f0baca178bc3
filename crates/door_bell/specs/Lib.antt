pub mod Layout
pub mod Change
pub mod BellRule
pub mod Kinds
pub mod Shown
pub mod SeatHolds
pub mod Inside
