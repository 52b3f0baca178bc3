pub mod GivesAt
pub mod Sendings
pub mod LaneImages
pub mod DeedMoves
pub mod PlacesGiven
