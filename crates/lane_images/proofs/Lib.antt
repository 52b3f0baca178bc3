pub mod Fronts
pub mod Early
pub mod Dealt
pub mod Lists
pub mod Laws
pub mod NewNames
pub mod Numbering
pub mod GivenPlaces
