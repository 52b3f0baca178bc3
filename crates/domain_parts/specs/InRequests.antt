-- What the requests of a domain keep, the buffers that complete ones hold, and which of those that wait are complete at once.
-- Source: docs/PROFILE.md, "Requests". A complete receive holds its message or packet until it is tested off.
use Rattle.std.specs.Prelude.{◌≡◌, ◌≤◌, Bool, false, ◌&&◌, ◌==◌, List, [], ◌∷◌, length, map, Option, None, Some, is_none, if◌then◌else◌}
use Rattle.std.specs.List.{AllByRecursion, flat_map}
use Rattle.mc_base.specs.Limits.{request_limit}
use Rattle.mc_base.specs.declared.request.Slot.{Slot}
use Rattle.buffer_book.specs.Book.{AllDiffer}
use Rattle.request_set.specs.declared.ask.Ask.{Ask}
use Rattle.request_set.specs.declared.ask.Ask.TheVariants as ask
use Rattle.request_set.specs.declared.ask.Complete.{Complete}
use Rattle.request_set.specs.declared.ask.Complete.TheVariants as complete
use Rattle.request_set.specs.Requests.{Standing, Requests, keys, receives_at}
use Rattle.board_model.specs.Change.{same_name}
use Rattle.domain_parts.specs.declared.requests.Waiters.{Waiters}
use Rattle.domain_parts.specs.declared.requests.Waiters.TheVariants as waiters

-- the buffer in which a message or packet came
abbrev pub slots_in : Option Complete → List Slot
slots_in (Some (complete.Message slot max)) = slot ∷ []
slots_in (Some (complete.Packet slot)) = slot ∷ []
slots_in other = []

-- how a receive is complete with the item in a buffer
abbrev pub handed_by : Ask → Slot → Complete
handed_by (ask.Message at max) slot = complete.Message slot max
handed_by other slot = complete.Packet slot

abbrev pub handed_slots : List Standing → List Slot
handed_slots rs = flat_map (λ r. slots_in r.complete) rs

-- a receive of a message: pending, complete with a message of which as many bytes are given as it asks for, or ended with a
-- word; a receive of a packet: pending, complete with a packet, or ended with a word; a lookup: pending, or complete with an address; and a connect: pending, accepted, or rejected
abbrev pub Receives : Ask → Option Complete → Type 0
Receives (ask.Message at max) None = Unit {0}
Receives (ask.Message at max) (Some (complete.Message slot most)) = most ≡ max
Receives (ask.Message at max) (Some (complete.Ended word)) = Unit {0}
Receives (ask.Packet at) None = Unit {0}
Receives (ask.Packet at) (Some (complete.Packet slot)) = Unit {0}
Receives (ask.Packet at) (Some (complete.Ended word)) = Unit {0}
Receives (ask.Lookup name) None = Unit {0}
Receives (ask.Lookup name) (Some (complete.Address address)) = Unit {0}
Receives (ask.Connect channel) None = Unit {0}
Receives (ask.Connect channel) (Some complete.Accepted) = Unit {0}
Receives (ask.Connect channel) (Some (complete.Rejected reason)) = Unit {0}
Receives ask other = ⊥

abbrev pub IsReceive : Standing → Type 0
IsReceive r = Receives r.ask r.complete

-- no key comes twice
pub record AreReceives (q : Requests) : Type 0 where
  pub each : AllByRecursion IsReceive q.standing
  pub differ : AllDiffer (keys q)
  pub few : length q.standing ≤ request_limit

-- ---- requests that wait for the same

-- whether a request that asks so is one of them
abbrev pub is_among : Waiters → Ask → Bool
is_among (waiters.Lookups name) (ask.Lookup other) = same_name name other
is_among (waiters.Lookups name) other = false
is_among (waiters.Receives at) a = receives_at at a
is_among (waiters.Connects number) (ask.Connect other) = other == number
is_among (waiters.Connects number) other = false

-- those that are pending are complete
abbrev pub completed_with : Waiters → Complete → Standing → Standing
completed_with who how r = if is_none r.complete && is_among who r.ask then record r { complete = Some how } else r

abbrev pub with_all_complete : Requests → Waiters → Complete → Requests
with_all_complete q who how = record q { standing = map (completed_with who how) q.standing }

-- they may be complete so
abbrev pub MayEnd : Waiters → Complete → Type 0
MayEnd (waiters.Lookups name) (complete.Address address) = Unit {0}
MayEnd (waiters.Receives at) (complete.Ended word) = Unit {0}
MayEnd (waiters.Connects number) complete.Accepted = Unit {0}
MayEnd (waiters.Connects number) (complete.Rejected reason) = Unit {0}
MayEnd who how = ⊥
