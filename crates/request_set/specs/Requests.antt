-- The requests of a domain that stand: pending, or complete and not yet tested off.
-- Source: docs/PROFILE.md, "Requests". They are told apart by key and serial; a key may be given again, with another serial.
use Rattle.std.specs.Prelude.{◌≡◌, ℕ, ◌+◌, ◌%◌, ◌^◌, Bool, false, true, not, ◌&&◌, ◌==◌, List, [], ◌∷◌, ◌++◌, map, filter, find, position, slice_get, Option, None, Some, is_none, option_map, Result, Ok, Err, if◌then◌else◌}
use Rattle.mc_base.specs.declared.name.Local.{Local}
use Rattle.mc_base.specs.declared.request.RequestId.{RequestId}
use Rattle.mc_base.specs.declared.refusal.Refusal.{Refusal}
use Rattle.mc_base.specs.declared.refusal.Refusal.TheVariants as refusal
use Rattle.request_set.specs.declared.ask.Ask.{Ask}
use Rattle.request_set.specs.declared.ask.Ask.TheVariants as ask
use Rattle.request_set.specs.declared.ask.Complete.{Complete}

-- a request: its id, what it asks for, and how it is complete, or none where it is pending
pub record Standing : Type 0 where
  pub id : RequestId
  pub ask : Ask
  pub complete : Option Complete

-- the requests that stand, in the order in which they were given, and how many were given, modulo 2^64
pub record Requests : Type 0 where
  pub standing : List Standing
  pub given : ℕ

abbrev pub no_requests : Requests
no_requests = record { standing = []; given = 0 }

-- ---- one request

abbrev pub is_id : RequestId → Standing → Bool
is_id id r = r.id.key == id.key && r.id.serial == id.serial

abbrev pub request_of : Requests → RequestId → Option Standing
request_of rs id = find (is_id id) rs.standing

-- it stands and is pending
abbrev pub IsPending : Requests → RequestId → Type 0
IsPending rs id = option_map (λ r. is_none r.complete) (request_of rs id) ≡ Some true

abbrev pub keys : Requests → List ℕ
keys rs = map (λ r. r.id.key) rs.standing

-- how a request is complete, or none where it is pending; none at all where no request has the id
abbrev pub progress_of : Requests → RequestId → Option (Option Complete)
progress_of rs id = option_map (λ r. r.complete) (request_of rs id)

-- the request stands and is complete
abbrev pub is_done : Option (Option Complete) → Bool
is_done (Some (Some how)) = true
is_done other = false

-- the first place in the list, counted from 0, whose request is complete
abbrev pub first_done : Requests → List RequestId → Option ℕ
first_done rs ids = position (λ id. is_done (progress_of rs id)) ids

-- the request at a place, counted from 0 in the order in which they were given
abbrev pub listed : Requests → ℕ → Option (RequestId × Ask × Option Complete)
listed rs at = option_map (λ r. (r.id, r.ask, r.complete)) (slice_get rs.standing at)

-- ---- what the calls answer, by the progress of the request

abbrev pub tested : Option (Option Complete) → Result Complete Refusal
tested None = Err refusal.RequestInvalid
tested (Some None) = Err refusal.Pending
tested (Some (Some how)) = Ok how

abbrev pub cancelled : Option (Option Complete) → Result (Unit {0}) Refusal
cancelled None = Err refusal.RequestInvalid
cancelled (Some None) = Ok tt
cancelled (Some (Some how)) = Err refusal.TooLate

-- ---- what changes

-- one more, pending, last in the list
abbrev pub with_request : Requests → RequestId → Ask → Requests
with_request rs id a = record { standing = rs.standing ++ record { id = id; ask = a; complete = None } ∷ []; given = (rs.given + 1) % 2 ^ 64 }

-- a request ended
abbrev pub without_request : Requests → RequestId → Requests
without_request rs id = record rs { standing = filter (λ r. not (is_id id r)) rs.standing }

-- a request is complete
abbrev pub completed : RequestId → Complete → Standing → Standing
completed id with r = if is_id id r then record r { complete = Some with } else r

abbrev pub with_complete : Requests → RequestId → Complete → Requests
with_complete rs id with = record rs { standing = map (completed id with) rs.standing }

-- ---- receives that wait

abbrev pub receives_at : Local → Ask → Bool
receives_at local (ask.Message at max) = at.node == local.node && at.port == local.port
receives_at local (ask.Packet at) = at.node == local.node && at.port == local.port
receives_at local other = false

-- a pending receive of an endpoint
abbrev pub waits_at : Local → Standing → Bool
waits_at local r = is_none r.complete && receives_at local r.ask

-- the oldest of them
abbrev pub oldest_waiting : Requests → Local → Option RequestId
oldest_waiting rs local = option_map (λ r. r.id) (find (waits_at local) rs.standing)
