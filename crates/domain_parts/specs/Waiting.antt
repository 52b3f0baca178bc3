-- What a wait of a domain does.
-- Source: docs/PROFILE.md, "Waits". Where one of its requests does not exist, or one is complete, it ends without a turn. Else it begins, and
-- makes turns until one of them is complete, at most as many as its limit. Where memory for the journal runs out, it gives up between two turns.
use Rattle.std.specs.Prelude.{◌≡◌, ℕ, ◌+◌, ◌≤◌, ◌<◌, Bool, true, false, List, [], ◌∷◌, length, map, Option, None, Some, Result, Ok, Err, if◌then◌else◌}
use Rattle.mc_base.specs.declared.refusal.NoMemory.{NoMemory}
use Rattle.mc_base.specs.declared.request.Done.{Done}
use Rattle.mc_base.specs.declared.request.RequestId.{RequestId}
use Rattle.board_model.specs.Answer.{answer}
use Rattle.board_model.specs.DomainCall.{DomainCall, wait_for}
use Rattle.board_model.specs.Journal.{Line, PlainAnswer, PlainEntry, refuses, completes, turned, waits, noted_all, Visit}
use Rattle.board_model.specs.Step.{is_timeout}
use Rattle.domain_parts.specs.declared.wait_fault.WaitFault.{WaitFault}
use Rattle.domain_parts.specs.declared.wait_fault.WaitFault.TheVariants as fault
use Rattle.domain_parts.specs.Awaiting.{places_named, all_exist, first_complete_in}
use Rattle.domain_parts.specs.Calls.{Does, Lending, result_of_done}
use Rattle.domain_parts.specs.DomainView.{DomainView}
use Rattle.domain_parts.specs.LaneMoves.{LaneMove}
use Rattle.domain_parts.specs.Turned.{Turns}

-- a wait for these requests, as a domain knows it
abbrev pub wait_on : {L : Type 0} → List RequestId → Bool → DomainView L → DomainCall
wait_on ids says_place d = wait_for (places_named ids d) says_place

-- all of them exist, and none is complete
abbrev pub AreAwaited : {L : Type 0} → List RequestId → DomainView L → Type 0
AreAwaited ids d = is_timeout (answer d.state 0 (wait_on ids false d)) ≡ true

-- the turns of a wait: before each of them none of the requests is complete
abbrev pub Polls : {L : Type 0} → (L → List LaneMove → L → Type 0) → List RequestId → List (List Visit) → DomainView L → DomainView L → Type 0
Polls Moved ids [] old new = new ≡ old
Polls {L = L} Moved ids (visits ∷ turns) old new = AreAwaited ids old × (numbers : List (List ℕ)) × (next : DomainView L) × Turns Moved visits numbers old next × Polls Moved ids turns next new

-- ---- the turns alone

-- after so many turns: memory ran out before the limit; or none of the requests is complete at the limit; or one is
abbrev pub FoundAfter : {L : Type 0} → ℕ → ℕ → List RequestId → DomainView L → Result (Option ℕ) NoMemory → Type 0
FoundAfter limit made ids new (Err e) = AreAwaited ids new × (made < limit)
FoundAfter limit made ids new (Ok None) = AreAwaited ids new × (made ≡ limit)
FoundAfter limit made ids new (Ok (Some at)) = (all_exist ids new ≡ true) × (first_complete_in ids new ≡ Some at)

-- with their lines
pub record Polled {L : Type 0} (Moved : L → List LaneMove → L → Type 0) (limit : ℕ) (ids : List RequestId) (old new : DomainView L) (lines lines' : List Line) (found : Result (Option ℕ) NoMemory) : Type 0 where
  pub turns : List (List Visit)
  pub polls : Polls Moved ids turns old new
  pub few : length turns ≤ limit
  pub told : lines' ≡ noted_all lines (map turned turns)
  pub ends : FoundAfter limit (length turns) ids new found

-- ---- a wait

abbrev pub wait_entries : ℕ → Bool → List (List Visit) → List PlainEntry
wait_entries number begins turns = if begins then waits number ∷ map turned turns else []

-- how it ends: with an answer, which is a timeout at the limit alone, and then the domain stayed; or with none, where memory ran out
abbrev pub EndsPolled : {L : Type 0} → (L → List LaneMove → L → Type 0) → ℕ → ℕ → List RequestId → Bool → DomainView L → DomainView L → Option PlainAnswer → Type 0
EndsPolled Moved limit made ids says_place polled new None = AreAwaited ids polled × (made < limit) × (new ≡ polled)
EndsPolled Moved limit made ids says_place polled new (Some answered) = Does Moved 0 (wait_on ids says_place polled) polled new answered None × (is_timeout answered ≡ true → (made ≡ limit) × (new ≡ polled))

-- a wait of the line of a number, with its lines
pub record Waits {L : Type 0} (Moved : L → List LaneMove → L → Type 0) (number limit : ℕ) (ids : List RequestId) (says_place : Bool) (old new : DomainView L) (lines lines' : List Line) (answered : Option PlainAnswer) : Type 0 where
  pub turns : List (List Visit)
  pub polled_to : DomainView L
  pub polls : Polls Moved ids turns old polled_to
  pub few : length turns ≤ limit
  pub told : lines' ≡ noted_all lines (wait_entries number (is_timeout (answer old.state 0 (wait_on ids false old))) turns)
  pub ends : EndsPolled Moved limit (length turns) ids says_place polled_to new answered

-- what a wait answers: the place of the request is counted from 1
abbrev pub place_told : Bool → ℕ → Option ℕ
place_told says_place at = if says_place then Some (at + 1) else None

abbrev pub waited_at : Bool → Result (ℕ × Done) WaitFault → List ℕ → Lending → Option PlainAnswer
waited_at says_place (Ok (at, how)) out lends = Some (completes (place_told says_place at) (result_of_done how out lends))
waited_at says_place (Err (fault.Refused word)) out lends = Some (refuses word)
waited_at says_place (Err fault.NoMemory) out lends = None

abbrev pub waited : Result Done WaitFault → List ℕ → Lending → Option PlainAnswer
waited (Ok how) out lends = Some (completes None (result_of_done how out lends))
waited (Err (fault.Refused word)) out lends = Some (refuses word)
waited (Err fault.NoMemory) out lends = None

abbrev pub waited_any : Result (ℕ × Done) WaitFault → List ℕ → Lending → Option PlainAnswer
waited_any (Ok (place, how)) out lends = Some (completes (Some place) (result_of_done how out lends))
waited_any (Err (fault.Refused word)) out lends = Some (refuses word)
waited_any (Err fault.NoMemory) out lends = None
