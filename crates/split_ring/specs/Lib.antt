pub mod Ends
pub mod Kept
pub mod Room
pub mod Finished
pub mod Left
