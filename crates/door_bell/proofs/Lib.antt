pub mod SeatLemmas
pub mod StateLemmas
pub mod SleeperSteps
pub mod RingerSteps
pub mod Beginning
pub mod CallLemmas
pub mod ShownLemmas
