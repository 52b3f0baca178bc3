pub mod Queue
pub mod InQueue
pub mod Linked
pub mod Cells
