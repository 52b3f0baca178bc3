-- The steps of a wait: its turns one after the other, and how it ends.
use Rattle.std.proofs.Common.{◌≡◌, ℕ, ◌+◌, Bool, true, false, List, [], ◌∷◌, ◌++◌, length, map, Option, None, refl, sym, ap, ◌∙◌, subst, arith, length-append}
use Rattle.std.specs.List.{list_all}
use Rattle.std.proofs.lemmas.List.{map-append}
use Rattle.mc_base.specs.declared.request.RequestId.{RequestId}
use Rattle.board_model.specs.Answer.{answer_by, first_complete, is_complete_at, place_said, refusal, result_of, stands_at, success}
use Rattle.board_model.specs.DomainCall.{test_of, wait_for}
use Rattle.board_model.specs.Journal.{Line, PlainEntry, PlainResult, Visit, completes, noted, noted_all, turned}
use Rattle.board_model.specs.State.{DomainState, request_at_place}
use Rattle.board_model.specs.Step.{is_timeout}
use Rattle.board_model.specs.Turn.{after_turn}
use Rattle.board_model.proofs.WholeWaits.{turn_all_stand}
use Rattle.domain_parts.specs.Awaiting.{all_exist, first_complete_in, places_named}
use Rattle.domain_parts.specs.CallSteps.{Acted, Acts, Means, Succeeds}
use Rattle.domain_parts.specs.DomainView.{DomainView, place_of_id}
use Rattle.domain_parts.specs.LaneMoves.{LaneMove}
use Rattle.domain_parts.specs.Parts.{Holding, Parts, state_of}
use Rattle.domain_parts.specs.Turned.{MakesTurn, Turns}
use Rattle.domain_parts.specs.Waiting.{AreAwaited, Polls, wait_on}
use Rattle.domain_parts.proofs.Calling.{answer-done}
use Rattle.domain_parts.proofs.WaitPlaces.{complete-test, wait-pends, wait-stood}

-- ---- turns

-- all requests exist and none is complete
pub awaited-of : {L : Type 0} (ids : List RequestId) (d : DomainView L) → all_exist ids d ≡ true → first_complete_in ids d ≡ None → AreAwaited ids d
awaited-of ids d all none =
    let pends = wait-pends d.state (places_named ids d) false all none in
    ap (λ o. is_timeout (answer_by o (success d.state 0 (wait_on ids false d)))) pends

-- the turns so far, after each of which none of the requests was complete
pub record Polling {L : Type 0} (M : L → List LaneMove → L → Type 0) (ids : List RequestId) (made : ℕ) (start now : DomainView L) (lines lines' : List Line) : Type 0 where
  pub turns : List (List Visit)
  pub polls : Polls M ids turns start now
  pub many : length turns ≡ made
  pub told : lines' ≡ noted_all lines (map turned turns)
  pub awaited : AreAwaited ids now

pub no-turns : {L : Type 0} (M : L → List LaneMove → L → Type 0) (ids : List RequestId) (start : DomainView L) (lines : List Line) → AreAwaited ids start → Polling M ids 0 start start lines lines
no-turns M ids start lines awaited = record { turns = []; polls = refl; many = refl; told = refl; awaited = awaited }

-- nothing was noted since
pub with-lines : {L : Type 0} (M : L → List LaneMove → L → Type 0) (ids : List RequestId) (made : ℕ) (start now : DomainView L) (lines lines' after : List Line) → Polling M ids made start now lines lines' → after ≡ lines' → Polling M ids made start now lines after
with-lines M ids made start now lines lines' after h same = record { turns = h.turns; polls = h.polls; many = h.many; told = same ∙ h.told; awaited = h.awaited }

pub noted-append : (lines : List Line) (es fs : List PlainEntry) → noted_all lines (es ++ fs) ≡ noted_all (noted_all lines es) fs
noted-append lines [] fs = refl
noted-append lines (e ∷ es) fs = noted-append (noted lines e) es fs

-- one turn more
polls-more : {L : Type 0} (M : L → List LaneMove → L → Type 0) (ids : List RequestId) (turns : List (List Visit)) (start now next : DomainView L) (visits : List Visit) (numbers : List (List ℕ)) → Polls M ids turns start now → AreAwaited ids now → Turns M visits numbers now next → Polls M ids (turns ++ visits ∷ []) start next
polls-more M ids [] start now next visits numbers polls awaited turn = subst (λ x. Polls M ids (visits ∷ []) x next) polls (awaited, numbers, next, turn, refl)
polls-more M ids (vs ∷ turns) start now next visits numbers polls awaited turn =
    (polls.0, polls.1, polls.2, polls.3, polls-more M ids turns polls.2 now next visits numbers polls.4 awaited turn)

-- turns lend nothing
pub polls-packets : {L : Type 0} (M : L → List LaneMove → L → Type 0) (ids : List RequestId) (turns : List (List Visit)) (old new : DomainView L) → Polls M ids turns old new → new.packets ≡ old.packets
polls-packets M ids [] old new polls = ap (λ d. d.packets) polls
polls-packets M ids (visits ∷ turns) old new polls = polls-packets M ids turns polls.2 new polls.4 ∙ polls.3.packets

module _ {L : Type 0} (M : L → List LaneMove → L → Type 0) (ids : List RequestId) (made : ℕ) (start now next : DomainView L) (lines before after : List Line) (idle : Bool) (h : Polling M ids made start now lines before) (turn : MakesTurn M now next before after idle) where
  pub more-turns : List (List Visit)
  more-turns = h.turns ++ turn.visits ∷ []

  pub more-polls : Polls M ids (h.turns ++ turn.visits ∷ []) start next
  more-polls = polls-more M ids h.turns start now next turn.visits turn.numbers h.polls h.awaited turn.turns

  pub more-many : length (h.turns ++ turn.visits ∷ []) ≡ made + 1
  more-many = omega (arith, h.many, length-append h.turns (turn.visits ∷ []))

  pub more-told : after ≡ noted_all lines (map turned (h.turns ++ turn.visits ∷ []))
  more-told =
      turn.told
      ∙ ap (λ ls. noted ls (turned turn.visits)) h.told
      ∙ sym (noted-append lines (map turned h.turns) (turned turn.visits ∷ []))
      ∙ ap (noted_all lines) (sym (map-append turned h.turns (turn.visits ∷ [])))

  -- a turn ends no request
  pub more-stand : all_exist ids next ≡ true
  more-stand =
      ap (λ s. list_all (stands_at s) (map (place_of_id next.ids) ids)) turn.turns.state
      ∙ ap (λ is. list_all (stands_at (after_turn now.state turn.visits)) (map (place_of_id is) ids)) turn.turns.ids
      ∙ turn_all_stand now.state turn.visits (places_named ids now)
      ∙ wait-stood now.state (places_named ids now) false h.awaited

  -- and where none is complete after it, the wait goes on
  pub goes-on : first_complete_in ids next ≡ None → Polling M ids (made + 1) start next lines after
  goes-on none = record {
    turns = h.turns ++ turn.visits ∷ [];
    polls = more-polls;
    many = more-many;
    told = more-told;
    awaited = awaited-of ids next more-stand none;
  }

-- ---- the end

-- a wait does what a test of the first complete request does
wait-means : (p : Parts) (ps : List (Option ℕ)) (says_place : Bool) → Means p 0 (test_of (first_complete (state_of p) ps)) None → Means p 0 (wait_for ps says_place) None
wait-means p ps says_place m = record { state = m.state; moves = m.moves; ids = m.ids; fresh = m.fresh; lent = m.lent; packets = m.packets; lends = m.lends }

module _ {L : Type 0} (M : L → List LaneMove → L → Type 0) (old new : Holding L) (ps : List (Option ℕ)) (says_place : Bool) where
  abbrev s : DomainState
  s = state_of old.parts

  wait-succeeds : Succeeds M 0 (test_of (first_complete s ps)) old new None → Succeeds M 0 (wait_for ps says_place) old new None
  wait-succeeds h = record { did = h.did; means = wait-means old.parts ps says_place h.means }

  same-result : (r : PlainResult) → completes None r ≡ success s 0 (test_of (first_complete s ps)) → completes (place_said s ps says_place) r ≡ success s 0 (wait_for ps says_place)
  same-result r e = let same : r ≡ result_of (request_at_place s (first_complete s ps)) = cc in ap (completes (place_said s ps says_place)) same

  pub wait-acts : (r : PlainResult) → refusal s 0 (wait_for ps says_place) ≡ None → is_complete_at s (first_complete s ps) ≡ true → Acts M 0 (test_of (first_complete s ps)) old new (completes None r) None → Acts M 0 (wait_for ps says_place) old new (completes (place_said s ps says_place) r) None
  wait-acts r done complete acts =
      let tested = complete-test s (first_complete s ps) complete in
      record {
        answer = same-result r (acts.answer ∙ answer-done s 0 (test_of (first_complete s ps)) tested) ∙ sym (answer-done s 0 (wait_for ps says_place) done);
        did = subst (λ o. Acted M o 0 (wait_for ps says_place) old new None) (sym done) (wait-succeeds (subst (λ o. Acted M o 0 (test_of (first_complete s ps)) old new None) tested acts.did));
      }
