pub mod End
pub mod Parts
