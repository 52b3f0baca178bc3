mod Places
mod RepliesTold
mod ClientSettles
mod ClientNext
mod ClientGoes
mod Flags
mod ServerHolds
mod ServerNext
mod ServerGoes
mod BytesFit
mod CallLines
mod LinesFollow
mod LeftLemmas
mod ActorGoes
pub mod SendLemmas
mod ClientCalls
mod RisingNumbers
mod CallsRows
pub mod CallsRuns
