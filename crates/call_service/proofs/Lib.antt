pub mod Numbers
pub mod Histories
pub mod Repeats
mod Arrivals
mod Keeping
