mod RoleLogs
mod HopLemmas
mod LogPackets
mod RoleLines
mod SourceLemmas
mod PlaceLemmas
mod TodoLemmas
mod TellLines
mod LabelLemmas
mod FollowLemmas
mod GoesLemmas
mod NumbersBelow
mod RelayRows
mod RoleNumbers
mod RelayDeeds
mod RelayStates
mod RelayPackets
mod RelayJournals
mod RelayChannels
pub mod RelayOrder
pub mod RelayRuns
pub mod SendLemmas
