-- Endpoints whose addresses rise, or are apart, have addresses of their own.
use Rattle.std.proofs.Common.{ℕ}
use Rattle.board_model.specs.State.{DomainState, is_at}
use Rattle.board_model.proofs.OrderSound.{Rise, own}
use Rattle.board_model.proofs.StateEnds.{Ends, by_address}
use Rattle.report_replay.specs.Effects.{HasOwnAddresses}

pub own_addresses : (s : DomainState) (lo hi : ℕ) → Rise lo s.endpoints hi → HasOwnAddresses s
own_addresses s lo hi rise at e is = own (is_at at) lo hi s.endpoints e rise is

pub own-addresses-apart : (s : DomainState) → Ends s → HasOwnAddresses s
own-addresses-apart s ends at e live = (by_address at s.endpoints e ends.apart live).found
