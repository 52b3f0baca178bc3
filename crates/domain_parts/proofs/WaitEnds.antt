-- How the turns of a wait end, and how the wait ends.
use Rattle.std.proofs.Common.{◌≡◌, ℕ, ◌+◌, ◌<◌, Bool, true, false, cond, List, [], ◌∷◌, ◌++◌, map, Option, Some, None, slice_get, option_map, refl, sym, ap, ◌∙◌, subst, arith}
use Rattle.std.specs.Prelude.{Ok, Err, position}
use Rattle.std.proofs.lemmas.Option.{slice_get-map}
use Rattle.mc_base.specs.declared.refusal.NoMemory.{NoMemory}
use Rattle.mc_base.specs.declared.refusal.Refusal.TheVariants.{RequestInvalid, Timeout}
use Rattle.mc_base.specs.declared.request.RequestId.{RequestId}
use Rattle.board_model.specs.Answer.{answer, first_complete, is_complete_at}
use Rattle.board_model.specs.DomainCall.{test_of, wait_for}
use Rattle.board_model.specs.Journal.{Line, PlainResult, Visit, completes, noted_all, refuses, turned, wait_line}
use Rattle.board_model.specs.Step.{is_timeout}
use Rattle.board_model.specs.Unnamed.{no_names, unnamed}
use Rattle.board_model.proofs.ListsMapped.{position-alike}
use Rattle.board_model.proofs.RenamedCalls.{complete-renamed, refusal-renamed}
use Rattle.domain_parts.specs.Awaiting.{all_exist, first_complete_in, places_named}
use Rattle.domain_parts.specs.Calls.{Does, Lending}
use Rattle.domain_parts.specs.CallSteps.{Acts, Rests}
use Rattle.domain_parts.specs.DomainView.{DomainView, place_of_id}
use Rattle.domain_parts.specs.LaneMoves.{LaneMove}
use Rattle.domain_parts.specs.Parts.{Holding, shown, state_of}
use Rattle.domain_parts.specs.Turned.{MakesTurn}
use Rattle.domain_parts.specs.declared.wait_fault.WaitFault.{WaitFault}
use Rattle.domain_parts.specs.declared.wait_fault.WaitFault.TheVariants as fault
use Rattle.domain_parts.specs.Waiting.{AreAwaited, Polled, Waits, place_told, wait_entries, wait_on, waited, waited_any, waited_at}
use Rattle.domain_parts.proofs.CallLemmas.{does-of}
use Rattle.domain_parts.proofs.Stepping.{acts-refused}
use Rattle.domain_parts.proofs.WaitPlaces.{first-complete, first-is, no-wait, timeout-word, wait-ends, wait-invalid}
use Rattle.domain_parts.proofs.WaitSteps.{Polling, more-many, more-polls, more-stand, more-told, wait-acts}

-- ---- the turns

module _ {L : Type 0} (M : L → List LaneMove → L → Type 0) (limit : ℕ) (ids : List RequestId) (made : ℕ) (start now : DomainView L) (lines lines' : List Line) (h : Polling M ids made start now lines lines') where
  pub polled-out : (e : NoMemory) → made < limit → Polled M limit ids start now lines lines' (Err e)
  polled-out e less = record { turns = h.turns; polls = h.polls; few = omega (arith, h.many, less); told = h.told; ends = (h.awaited, omega (arith, h.many, less)) }

  pub polled-none : made ≡ limit → Polled M limit ids start now lines lines' (Ok None)
  polled-none all = record { turns = h.turns; polls = h.polls; few = omega (arith, h.many, all); told = h.told; ends = (h.awaited, h.many ∙ all) }

  pub polled-one : (next : DomainView L) (after : List Line) (idle : Bool) (at : ℕ) → MakesTurn M now next lines' after idle → made < limit → first_complete_in ids next ≡ Some at → Polled M limit ids start next lines after (Ok (Some at))
  polled-one next after idle at turn less is = record {
    turns = h.turns ++ turn.visits ∷ [];
    polls = more-polls M ids made start now next lines lines' after idle h turn;
    few = omega (arith, more-many M ids made start now next lines lines' after idle h turn, less);
    told = more-told M ids made start now next lines lines' after idle h turn;
    ends = (more-stand M ids made start now next lines lines' after idle h turn, is);
  }

-- ---- the wait

-- a place that is told is the place that is said
told-said : (o : Option ℕ) (at : ℕ) (says_place : Bool) → o ≡ Some at → place_told says_place at ≡ cond says_place (option_map (λ i. i + 1) o) None
told-said o at true is = sym (ap (option_map (λ i. i + 1)) is)
told-said o at false is = refl

module _ {L : Type 0} (M : L → List LaneMove → L → Type 0) (ids : List RequestId) (says_place : Bool) where
  -- what it does where one of its requests is complete
  pub ends-first : (old new : Holding L) (at : ℕ) (id : RequestId) (r : PlainResult) → Rests M old → all_exist ids (shown old) ≡ true → first_complete_in ids (shown old) ≡ Some at → slice_get ids at ≡ Some id
      → Acts M 0 (test_of (place_of_id (shown old).ids id)) old new (completes None r) None → Does M 0 (wait_on ids says_place (shown old)) (shown old) (shown new) (completes (place_told says_place at) r) None
  ends-first old new at id r rests all is here acts =
      let s = state_of old.parts in
      let ps = places_named ids (shown old) in
      let place : slice_get ps at ≡ Some (place_of_id (shown old).ids id) = slice_get-map (place_of_id (shown old).ids) ids at ∙ ap (option_map (place_of_id (shown old).ids)) here in
      let found : position (is_complete_at s) ps ≡ Some at = sym (position-alike (is_complete_at (unnamed s)) (is_complete_at s) (complete-renamed no_names s) ps) ∙ is in
      let first = first-is s ps at found (place_of_id (shown old).ids id) place in
      let done = sym (refusal-renamed no_names s 0 (wait_for ps says_place)) ∙ wait-ends (unnamed s) ps says_place at all is in
      let complete : is_complete_at s (first_complete s ps) ≡ true = ap (is_complete_at s) first ∙ first-complete s ps at found (place_of_id (shown old).ids id) place in
      let tested = subst (λ p. Acts M 0 (test_of p) old new (completes None r) None) (sym first) acts in
      let told : Acts M 0 (wait_on ids says_place (shown old)) old new (completes (place_told says_place at) r) None =
      subst (λ p. Acts M 0 (wait_on ids says_place (shown old)) old new (completes p r) None) (sym (told-said (position (is_complete_at s) ps) at says_place found)) (wait-acts M old new ps says_place r done complete tested) in
      does-of M 0 (wait_on ids says_place (shown old)) old new (completes (place_told says_place at) r) None rests told

  module _ (number limit : ℕ) (lines : List Line) where
    begins-not : (b : Bool) → b ≡ false → lines ≡ noted_all lines (wait_entries number b [])
    begins-not b e = sym (ap (λ x. noted_all lines (wait_entries number x [])) e)

    -- it is refused without a turn
    pub ended-invalid : (old : Holding L) → Rests M old → all_exist ids (shown old) ≡ false → Waits M number limit ids says_place (shown old) (shown old) lines lines (Some (refuses RequestInvalid))
    ended-invalid old rests none =
        let s = (shown old).state in
        let ps = places_named ids (shown old) in
        record {
          turns = [];
          polled_to = shown old;
          polls = refl;
          few = omega arith;
          told = begins-not (is_timeout (answer s 0 (wait_on ids false (shown old)))) (no-wait s ps false (Some RequestInvalid) (wait-invalid s ps false none) refl);
          ends = (
            does-of M 0 (wait_on ids says_place (shown old)) old old (refuses RequestInvalid) None rests (acts-refused M 0 (wait_on ids says_place (shown old)) old old RequestInvalid (sym (refusal-renamed no_names (state_of old.parts) 0 (wait_for ps says_place)) ∙ wait-invalid s ps says_place none) refl),
            λ e. absurd cc,
          );
        }

    -- it ends without a turn
    pub ended-at-once : (old new : DomainView L) (at : ℕ) (r : PlainResult) → all_exist ids old ≡ true → first_complete_in ids old ≡ Some at
        → Does M 0 (wait_on ids says_place old) old new (completes (place_told says_place at) r) None → Waits M number limit ids says_place old new lines lines (Some (completes (place_told says_place at) r))
    ended-at-once old new at r all is does =
        let ps = places_named ids old in
        record {
          turns = [];
          polled_to = old;
          polls = refl;
          few = omega arith;
          told = begins-not (is_timeout (answer old.state 0 (wait_on ids false old))) (no-wait old.state ps false None (wait-ends old.state ps false at all is) refl);
          ends = (does, λ e. absurd cc);
        }

    -- it has begun
    module _ (old : DomainView L) (awaited : AreAwaited ids old) (begun lines' : List Line) (noted : begun ≡ lines ++ wait_line number ∷ []) where
      begins : (turns : List (List Visit)) → lines' ≡ noted_all begun (map turned turns) → lines' ≡ noted_all lines (wait_entries number (is_timeout (answer old.state 0 (wait_on ids false old))) turns)
      begins turns told =
          told
          ∙ ap (λ ls. noted_all ls (map turned turns)) noted
          ∙ sym (ap (λ b. noted_all lines (wait_entries number b turns)) awaited)

      pub gave-up : (new : DomainView L) (e : NoMemory) → Polled M limit ids old new begun lines' (Err e) → Waits M number limit ids says_place old new lines lines' None
      gave-up new e h = record { turns = h.turns; polled_to = new; polls = h.polls; few = h.few; told = begins h.turns h.told; ends = (h.ends.0, h.ends.1, refl) }

      pub timed-out : (new : Holding L) → Polled M limit ids old (shown new) begun lines' (Ok None) → Rests M new → Waits M number limit ids says_place old (shown new) lines lines' (Some (refuses Timeout))
      timed-out new h rests = record {
        turns = h.turns;
        polled_to = shown new;
        polls = h.polls;
        few = h.few;
        told = begins h.turns h.told;
        ends = (
          does-of M 0 (wait_on ids says_place (shown new)) new new (refuses Timeout) None rests (acts-refused M 0 (wait_on ids says_place (shown new)) new new Timeout (sym (refusal-renamed no_names (state_of new.parts) 0 (wait_on ids says_place (shown new))) ∙ timeout-word (shown new).state (places_named ids (shown new)) says_place h.ends.0) refl),
          λ e. (h.ends.1, refl),
        );
      }

      pub ended-after : (mid new : DomainView L) (at : ℕ) (r : PlainResult) → Polled M limit ids old mid begun lines' (Ok (Some at)) → Does M 0 (wait_on ids says_place mid) mid new (completes (place_told says_place at) r) None
          → Waits M number limit ids says_place old new lines lines' (Some (completes (place_told says_place at) r))
      ended-after mid new at r h does = record {
        turns = h.turns;
        polled_to = mid;
        polls = h.polls;
        few = h.few;
        told = begins h.turns h.told;
        ends = (does, λ e. absurd cc);
      }

-- ---- what it answers

pub err-one : (f : WaitFault) (out : List ℕ) (lends : Lending) → waited_at false (Err f) out lends ≡ waited (Err f) out lends
err-one (fault.Refused word) out lends = refl
err-one fault.NoMemory out lends = refl

pub err-any : (f : WaitFault) (out : List ℕ) (lends : Lending) → waited_at true (Err f) out lends ≡ waited_any (Err f) out lends
err-any (fault.Refused word) out lends = refl
err-any fault.NoMemory out lends = refl
