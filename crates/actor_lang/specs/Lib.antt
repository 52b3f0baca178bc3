pub mod InputLines
pub mod InputNumbers
pub mod InputFaults
pub mod RelayInput
pub mod CallsInput
pub mod Texts
pub mod Parts
