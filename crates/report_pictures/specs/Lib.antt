pub mod Traces
pub mod Pictures
pub mod Lanes
