pub mod Letters
pub mod Taken
pub mod TakenWhole
pub mod Changed
pub mod Comings
pub mod VerdictsDone
pub mod Counted
pub mod FramesFor
pub mod PutFrames
pub mod Removed
-- Lemmas over plain lists.
pub mod OwnAddresses
pub mod SerialsHeld
pub mod ShortLetters
pub mod Returned
pub mod NamesAdded
