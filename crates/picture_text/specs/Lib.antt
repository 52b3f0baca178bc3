pub mod Escapes
pub mod Pieces
pub mod Markup
pub mod Objects
