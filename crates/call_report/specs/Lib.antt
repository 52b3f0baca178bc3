pub mod CallsText
