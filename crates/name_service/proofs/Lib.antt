pub mod Announcements
pub mod NameLists
pub mod NamePlaces
pub mod FramesRead
