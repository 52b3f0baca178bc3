-- What a cancel leaves: a request that took nothing, and that is gone. And what a test answers of the request that it names.
use Rattle.std.proofs.Common.{◌≡◌, ℕ, zero, suc, ◌<◌, false, not, cond, List, [], ◌∷◌, ◌++◌, flat_map, Option, Some, None, option_map, option_to_list, refl, sym, ap, ap₂, ◌∙◌, subst, arith, Bool, true, ◌||◌, find}
use Rattle.std.specs.Prelude.{◌==◌, is_some, slice_get, option_and_then}
use Rattle.std.specs.List.{AllByRecursion, list_all, list_any}
use Rattle.std.proofs.lemmas.Bool.{eqb-true, eq-eqb}
use Rattle.mc_base.specs.declared.refusal.Refusal.{Refusal}
use Rattle.mc_base.specs.declared.refusal.Refusal.TheVariants.{RequestInvalid, Pending, Timeout}
use Rattle.board_model.specs.Lists.{without, without_at}
use Rattle.board_model.specs.DomainCall.{test_of, wait_for, cancel_of}
use Rattle.board_model.specs.Journal.{PlainAnswer, refuses, agrees, completes}
use Rattle.board_model.specs.State.{Asked, name_of, channel_of, message_at, packet_at, Outcome, has_address, is_accepted, is_rejected, has_item, has_ended, Request, DomainState, request_at_place, Item}
use Rattle.board_model.specs.Answer.{holds, words_of, refusal, answer, answer_by, unless_refused, is_complete, result_by, result_of, stands_at, is_complete_at, first_complete, place_said}
use Rattle.board_model.specs.Change.{request_gone, changed_all}
use Rattle.board_model.specs.CallChanges.{success_changes, call_changes}
use Rattle.board_model.specs.Deeds.{Deed, calls, after_deed, MayDo, after_deeds}
use Rattle.board_model.specs.Takings.{item_held, completed_by, takings_by, cancelled_by}
use Rattle.board_model.specs.MessageOrder.{taken_for, TellsAsked, TellsOf, WaitTells}
use Rattle.board_model.proofs.OrderLookups.{none_holds}
use Rattle.board_model.proofs.OrderRequests.{Took, Holds, Held, IsDone, FitsAsked, items_by}
use Rattle.board_model.proofs.OrderSerials.{IsOther, Differ, Below}
use Rattle.board_model.proofs.OrderTakings.{all_old, none_taken, old_without}

-- ---- lists

all_at : (P : Request → Type 0) (rs : List Request) (place : Option ℕ) (r : Request) → option_and_then (λ i. slice_get rs i) place ≡ Some r → AllByRecursion P rs → P r
all_at P rs None r is all = absurd cc
all_at P rs (Some i) r is all = go i rs is all
  where
    go : (i : ℕ) (rs : List Request) → slice_get rs i ≡ Some r → AllByRecursion P rs → P r
    go i [] is all = absurd cc
    go zero (x ∷ xs) is all = let same : x ≡ r = cc in subst P same all.0
    go (suc i) (x ∷ xs) is all = go i xs is all.1

turned : (a b : ℕ) → (a == b) ≡ false → (b == a) ≡ false
turned a b other = grind (arith, eqb-true, eq-eqb, other)

-- the request at a place is gone, and no other has its serial
away_without : (place : Option ℕ) (rs : List Request) (r : Request) → Differ rs → option_and_then (λ i. slice_get rs i) place ≡ Some r → AllByRecursion (IsOther r.serial) (without place rs)
away_without None rs r differ is = absurd cc
away_without (Some i) rs r differ is = go i rs differ is
  where
    at_other : (k : ℕ) (i : ℕ) (rs : List Request) → slice_get rs i ≡ Some r → AllByRecursion (IsOther k) rs → (r.serial == k) ≡ false
    at_other k i [] is all = absurd cc
    at_other k zero (x ∷ xs) is all = let same : x ≡ r = cc in subst (λ y. (y.serial == k) ≡ false) same all.0
    at_other k (suc i) (x ∷ xs) is all = at_other k i xs is all.1

    go : (i : ℕ) (rs : List Request) → Differ rs → slice_get rs i ≡ Some r → AllByRecursion (IsOther r.serial) (without_at i rs)
    go i [] differ is = tt
    go zero (x ∷ xs) differ is = let same : x ≡ r = cc in subst (λ y. AllByRecursion (IsOther y.serial) xs) same differ.0
    go (suc i) (x ∷ xs) differ is = (turned r.serial x.serial (at_other x.serial i xs is differ.0), go i xs differ.1 is)

some_there : (o : Option Request) → not (is_some o) ≡ false → (r : Request) × (o ≡ Some r)
some_there None e = absurd cc
some_there (Some r) e = (r, refl)

pending_holds : (o : Option Outcome) → is_some o ≡ false → item_held o ≡ []
pending_holds None e = refl
pending_holds (Some x) e = absurd cc

-- ---- cancels

module _ (start : DomainState) (before : List Deed) (s : DomainState) (differ : Differ s.requests) (below : Below s.requests_given s.requests) (held : Held (taken_for start before) s.requests s.requests_given) where
  abbrev took_then : Deed → Took
  took_then d k = taken_for start before k ++ items_by k (takings_by s d)

  abbrev Gone : Deed → Type 0
  Gone d = AllByRecursion (IsDone (took_then d) (after_deed s d).requests (after_deed s d).requests_given) (cancelled_by s d)

  -- by a cancel that succeeds
  cancel_gone : (node : ℕ) (place : Option ℕ) → refusal s node (cancel_of place) ≡ None → Gone (calls node (cancel_of place) agrees)
  cancel_gone node place none =
      let words = none_holds (holds s node (cancel_of place)) (words_of (cancel_of place)) none in
      let r = some_there (request_at_place s place) words.0 in
      let pends : is_some r.0.outcome ≡ false = ap is_complete (sym r.1) ∙ words.1.0 in
      let h : Holds (taken_for start before) r.0 = all_at (Holds (taken_for start before)) s.requests place r.0 r.1 held.each in
      let low : r.0.serial < s.requests_given = all_at (λ q. q.serial < s.requests_given) s.requests place r.0 r.1 below in
      let gone : changed_all s (call_changes s node (cancel_of place)) ≡ changed_all s (request_gone place ∷ []) = ap (λ o. changed_all s (unless_refused o [] (success_changes s node (cancel_of place)))) none in
      let nothing : takings_by s (calls node (cancel_of place) agrees) ≡ [] = ap (λ t. flat_map (completed_by s) t.requests) gone ∙ none_taken s (without place s.requests) (old_without s place s.requests (all_old s)) in
      subst (λ o. AllByRecursion (IsDone (took_then (calls node (cancel_of place) agrees)) (after_deed s (calls node (cancel_of place) agrees)).requests (after_deed s (calls node (cancel_of place) agrees)).requests_given) (option_to_list (option_map (λ x. x.serial) o))) (sym r.1) (
        record {
          nothing = ap₂ (λ a b. a ++ b) (h.items ∙ pending_holds r.0.outcome pends) (ap (items_by r.0.serial) nothing);
          low = subst (λ t. r.0.serial < t.requests_given) (sym gone) low;
          away = subst (λ t. AllByRecursion (IsOther r.0.serial) t.requests) (sym gone) (away_without place s.requests r.0 differ r.1);
        },
        tt,
      )

  cancelled_none : (node : ℕ) (place : Option ℕ) (w : Refusal) → cancelled_by s (calls node (cancel_of place) (refuses w)) ≡ []
  cancelled_none node place w = refl

  pub cancels_done : (d : Deed) → MayDo s d → Gone d
  cancels_done (calls node (cancel_of place) a) may = subst (λ x. Gone (calls node (cancel_of place) x)) (sym may) (go (refusal s node (cancel_of place)) refl)
    where
      go : (o : Option Refusal) → refusal s node (cancel_of place) ≡ o → Gone (calls node (cancel_of place) (answer_by o agrees))
      go None none = cancel_gone node place none
      go (Some w) some = tt
  cancels_done other may = tt

  -- ---- tests

  tells_held : (asked : Asked) (o : Outcome) (k : ℕ) → FitsAsked asked (Some o) → taken_for start before k ≡ item_held (Some o) → TellsAsked asked (taken_for start before k) (completes None (result_by asked (Some o)))
  tells_held (message_at at max) (has_item i) k fits is = record { item = i; taken = is; gives = record { whole = refl; first = refl } }
  tells_held (message_at at max) (has_ended w) k fits is = is
  tells_held (packet_at at) (has_item i) k fits is = record { item = i; taken = is; whole = refl; all = refl }
  tells_held (packet_at at) (has_ended w) k fits is = is
  tells_held (name_of n) (has_address a) k fits is = is
  tells_held (channel_of n) is_accepted k fits is = is
  tells_held (channel_of n) (is_rejected why) k fits is = is
  tells_held asked o k fits is = absurd fits

  tells_pending : (asked : Asked) (k : ℕ) → taken_for start before k ≡ [] → TellsAsked asked (taken_for start before k) (refuses Pending)
  tells_pending (message_at at max) k is = is
  tells_pending (name_of n) k is = is
  tells_pending (channel_of n) k is = is
  tells_pending (packet_at at) k is = is

  tells_of : (o : Option Request) → ((r : Request) → o ≡ Some r → Holds (taken_for start before) r) →
      TellsOf start before o (answer_by (cond (not (is_some o)) (Some RequestInvalid) (cond (not (is_complete o)) (Some Pending) None)) (completes None (result_of o)))
  tells_of None holds = tt
  tells_of (Some r) holds = go r.asked r.outcome (holds r refl)
    where
      go : (asked : Asked) (o : Option Outcome) → Holds (taken_for start before) r → TellsAsked r.asked (taken_for start before r.serial) (answer_by (cond (not (is_some r.outcome)) (Some Pending) None) (completes None (result_by r.asked r.outcome)))
      go asked o h = at r.outcome h.items h.fits
        where
          at : (o : Option Outcome) → taken_for start before r.serial ≡ item_held o → FitsAsked r.asked o → TellsAsked r.asked (taken_for start before r.serial) (answer_by (cond (not (is_some o)) (Some Pending) None) (completes None (result_by r.asked o)))
          at None items fits = tells_pending r.asked r.serial items
          at (Some x) items fits = tells_held r.asked x r.serial fits items

  pub test_tells : (node : ℕ) (place : Option ℕ) (a : PlainAnswer) → a ≡ answer s node (test_of place) → TellsOf start before (request_at_place s place) a
  test_tells node place a is = subst (TellsOf start before (request_at_place s place)) (sym is) (tells_of (request_at_place s place) (λ r at. all_at (Holds (taken_for start before)) s.requests place r at held.each))

-- ---- waits

module _ (start : DomainState) (before : List Deed) (differ : Differ (after_deeds start before).requests) (below : Below (after_deeds start before).requests_given (after_deeds start before).requests) (held : Held (taken_for start before) (after_deeds start before).requests (after_deeds start before).requests_given) where
  abbrev now : DomainState
  now = after_deeds start before

  holds_at : (request : Option ℕ) (r : Request) → request_at_place now request ≡ Some r → Holds (taken_for start before) r
  holds_at request r at = all_at (Holds (taken_for start before)) now.requests request r at held.each

  tells_done : (o : Option Request) → is_complete o ≡ true → ((r : Request) → o ≡ Some r → Holds (taken_for start before) r) → TellsOf start before o (completes None (result_of o))
  tells_done None done holds = absurd cc
  tells_done (Some r) done holds = go r.outcome done (holds r refl).items (holds r refl).fits
    where
      go : (x : Option Outcome) → is_some x ≡ true → taken_for start before r.serial ≡ item_held x → FitsAsked r.asked x → TellsAsked r.asked (taken_for start before r.serial) (completes None (result_by r.asked x))
      go None done items fits = absurd cc
      go (Some x) done items fits = tells_held start before now differ below held r.asked x r.serial fits items

  none_told : (asked : Asked) (took : List Item) → took ≡ [] → TellsAsked asked took (refuses Timeout)
  none_told (message_at at max) took is = is
  none_told (name_of n) took is = is
  none_told (channel_of n) took is = is
  none_told (packet_at at) took is = is

  tells_none : (o : Option Request) → is_complete o ≡ false → ((r : Request) → o ≡ Some r → Holds (taken_for start before) r) → TellsOf start before o (refuses Timeout)
  tells_none None pends holds = tt
  tells_none (Some r) pends holds = none_told r.asked (taken_for start before r.serial) ((holds r refl).items ∙ pending_holds r.outcome pends)

  first_done : (requests : List (Option ℕ)) → not (list_any (is_complete_at now) requests) ≡ false → is_complete (request_at_place now (first_complete now requests)) ≡ true
  first_done [] some = absurd cc
  first_done (r ∷ rs) some = go (is_complete_at now r) refl some (first_done rs)
    where
      go : (b : Bool) → is_complete_at now r ≡ b → not (b || list_any (is_complete_at now) rs) ≡ false →
          (not (list_any (is_complete_at now) rs) ≡ false → is_complete (request_at_place now (first_complete now rs)) ≡ true) →
          is_complete (request_at_place now (option_and_then (λ x. x) (cond b (Some r) (find (is_complete_at now) rs)))) ≡ true
      go true is some later = is
      go false is some later = later some

  none_done : (requests : List (Option ℕ)) → not (list_any (is_complete_at now) requests) ≡ true → AllByRecursion (λ r. TellsOf start before (request_at_place now r) (refuses Timeout)) requests
  none_done [] none = tt
  none_done (r ∷ rs) none = go (is_complete_at now r) refl none (none_done rs)
    where
      go : (b : Bool) → is_complete_at now r ≡ b → not (b || list_any (is_complete_at now) rs) ≡ true →
          (not (list_any (is_complete_at now) rs) ≡ true → AllByRecursion (λ q. TellsOf start before (request_at_place now q) (refuses Timeout)) rs) →
          AllByRecursion (λ q. TellsOf start before (request_at_place now q) (refuses Timeout)) (r ∷ rs)
      go true is none later = absurd cc
      go false is none later = (tells_none (request_at_place now r) is (holds_at r), later none)

  -- what a wait answers, by whether all of its requests stand, and whether one is complete
  wait_answers : (requests : List (Option ℕ)) (says_place stand lacks : Bool) → not (list_any (is_complete_at now) requests) ≡ lacks →
      WaitTells start before requests says_place (answer_by (cond stand (Some RequestInvalid) (cond lacks (Some Timeout) None)) (completes (place_said now requests says_place) (result_of (request_at_place now (first_complete now requests)))))
  wait_answers requests says_place true lacks is = tt
  wait_answers requests says_place false true is = none_done requests is
  wait_answers requests says_place false false is = (refl, tells_done (request_at_place now (first_complete now requests)) (first_done requests is) (holds_at (first_complete now requests)))

  pub wait_tells : (node : ℕ) (requests : List (Option ℕ)) (says_place : Bool) (a : PlainAnswer) → a ≡ answer now node (wait_for requests says_place) → WaitTells start before requests says_place a
  wait_tells node requests says_place a is = subst (WaitTells start before requests says_place) (sym is) (wait_answers requests says_place (not (list_all (stands_at now) requests)) (not (list_any (is_complete_at now) requests)) refl)
