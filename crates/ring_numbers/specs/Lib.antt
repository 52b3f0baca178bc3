pub mod SenderNumbers
pub mod RingLists
pub mod BoardRings
pub mod InTime
pub mod RingTexts
