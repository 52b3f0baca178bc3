pub mod Sets
mod Walks
mod CellWrites
mod Items
mod TakenItems
mod AsideItems
mod Found
mod ShelfItems
pub mod ShelfLemmas
pub mod ItemLemmas
pub mod ItemCounts
pub mod NoneAside
pub mod Releases
pub mod Opening
