pub mod Written
pub mod Kept
pub mod Entry
pub mod EntryText
pub mod Readers
pub mod Spelled
pub mod LineForms
