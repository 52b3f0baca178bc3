pub use Rattle.domain_parts.proofs.Carries
pub use Rattle.domain_parts.proofs.Tables
pub use Rattle.domain_parts.proofs.PeerPlaces
pub use Rattle.domain_parts.proofs.WaitPlaces
pub use Rattle.domain_parts.proofs.WaitSteps
pub mod CarriedDomains
pub mod Going
pub mod WaitsGoing
