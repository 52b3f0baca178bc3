-- Words of the replay over the board's definitions.
-- Source: docs/PROFILE.md, "A domain".
use Rattle.std.specs.Prelude.{ℕ, ◌-◌, Bool, not, ◌&&◌, min, nat_le, nat_lt, length, is_some, if◌then◌else◌}
use Rattle.mc_base.specs.declared.name.Local.{Local}
use Rattle.mc_base.specs.declared.name.EndName.{EndName}
use Rattle.mc_base.specs.NameMap.{Names, address_in, names_limit}
use Rattle.mc_base.specs.declared.refusal.Refusal.{Refusal}
use Rattle.board_model.specs.State.{DomainState, Peer, Request, has_ended, held_from, waits_at}
use Rattle.board_model.specs.Scenario.{Neighbour, neighbour}
use Rattle.board_model.specs.Change.{done_with}

-- a request that ends with a word where it waits at the endpoint of this name
abbrev pub ended_at : Local → Refusal → Request → Request
ended_at local word r = if waits_at local r then done_with (has_ended word) r else r

-- the greatest number of 64 bits, where counts stay
abbrev pub greatest : ℕ
greatest = 18446744073709551615

-- the most bytes of an item that is held, by how a part says the bytes of its whole
abbrev pub most_bytes : ℕ
most_bytes = 65535

-- a peer's number and the buffers of the lane to it
abbrev pub neighbour_of : ℕ × ℕ → Neighbour
neighbour_of p = neighbour p.0 p.1

-- how many frames of a peer a look shows: as many as it says, none fewer than before, and no more than the buffers that are not held
abbrev pub shown_by : DomainState → ℕ → ℕ → Peer → ℕ
shown_by s peer told p = if nat_lt told p.shown then p.shown else min told (p.size - held_from peer s)

-- no further name can be learned
abbrev pub lacks_room : EndName → Names → Bool
lacks_room name known = not (is_some (address_in name known)) && nat_le names_limit (length known)
