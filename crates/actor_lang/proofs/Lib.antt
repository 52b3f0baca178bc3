pub mod PartLemmas
pub mod PacketLemmas
pub mod Told
pub mod FitLemmas
pub mod RelayFits
pub mod CallsFits
