pub mod TextSteps
pub mod RoomLemmas
pub mod JournalsFound
