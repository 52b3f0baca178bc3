pub mod Chains
pub mod CellLists
pub mod CellWrites
pub mod SoundCells
pub mod CellReads
pub mod Choosing
pub mod FreshCells
