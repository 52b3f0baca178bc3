pub mod FaultRows
pub mod FullNames
pub mod NameFields
pub mod PieceCounts
pub mod Readings
