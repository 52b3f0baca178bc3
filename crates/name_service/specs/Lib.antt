pub mod Said
pub mod Laws
pub mod NameLaws
pub mod FullNameLaws
pub mod InKnownNames
pub mod ReadingLaws
