-- The requests that a wait names: whether they exist and are complete, and the word of the wait by that.
use Rattle.std.proofs.Common.{◌≡◌, ℕ, ◌+◌, ◌<◌, ◌||◌, ◌&&◌, Bool, true, false, cond, List, [], ◌∷◌, length, map, find, position, Option, Some, None, is_some, option_map, option_and_then, slice_get, refl, sym, ap, ◌∙◌, arith}
use Rattle.std.specs.Prelude.{not, IfSome, IsOk, Result, Ok, Err}
use Rattle.std.specs.List.{list_all, list_any, position_from}
use Rattle.std.proofs.lemmas.Iterator.Adapters.{position_from-zero}
use Rattle.std.proofs.lemmas.List.{length-map}
use Rattle.std.proofs.lemmas.Option.{slice_get-map, slice_get_within}
use Rattle.mc_base.specs.declared.refusal.Refusal.{Refusal}
use Rattle.mc_base.specs.declared.refusal.Refusal.TheVariants.{Pending, RequestInvalid, Timeout}
use Rattle.mc_base.specs.declared.request.Done.{Done}
use Rattle.mc_base.specs.declared.request.RequestId.{RequestId}
use Rattle.board_model.specs.Answer.{answer, answer_by, first_complete, is_complete, is_complete_at, refusal, stands_at, success}
use Rattle.board_model.specs.DomainCall.{test_of, wait_for}
use Rattle.board_model.specs.Journal.{PlainAnswer, refuses}
use Rattle.board_model.specs.State.{DomainState, Request, request_at_place}
use Rattle.board_model.specs.Step.{is_timeout}
use Rattle.board_model.proofs.MessageAlls.{found-passes}
use Rattle.board_model.proofs.MessageLists.{get-position, some-position}
use Rattle.buffer_book.specs.Book.{Book}
use Rattle.request_set.specs.declared.ask.Complete.{Complete}
use Rattle.request_set.specs.Requests.{Requests, Standing, first_done, is_done, progress_of, request_of}
use Rattle.domain_parts.specs.Calls.{Lending, tested}
use Rattle.domain_parts.specs.Awaiting.{first_complete_in, places_named}
use Rattle.domain_parts.specs.DomainView.{DomainView, place_of_id}
use Rattle.domain_parts.specs.InBook.{outcome_in, request_in, requests_in}
use Rattle.domain_parts.proofs.Calling.{test_by, test-is}
use Rattle.domain_parts.proofs.Ending.{ids_in, request-at}
use Rattle.domain_parts.proofs.Receives.{position-same}
use Rattle.domain_parts.proofs.Tables.{position-map}

-- ---- one request

pub some-map : {A B : Type 0} (f : A → B) (o : Option A) → is_some (option_map f o) ≡ is_some o
some-map f None = refl
some-map f (Some x) = refl

outcome-done : (b : Book) (c : Option Complete) → is_some (option_map (outcome_in b) c) ≡ is_done (Some c)
outcome-done b None = refl
outcome-done b (Some c) = refl

request-done : (b : Book) (o : Option Standing) → is_complete (option_map (request_in b) o) ≡ is_done (option_map (λ (r : Standing). r.complete) o)
request-done b None = refl
request-done b (Some r) = outcome-done b r.complete

-- ---- those that are named, in a state that has the requests that exist
module _ (b : Book) (q : Requests) (s : DomainState) (stand : s.requests ≡ requests_in b q.standing) where
  abbrev place : RequestId → Option ℕ
  place id = place_of_id (ids_in q) id

  complete-at : (id : RequestId) → is_complete_at s (place id) ≡ is_done (progress_of q id)
  complete-at id = ap is_complete (request-at b q s stand id) ∙ request-done b (request_of q id)

  pub stands-at : (id : RequestId) → stands_at s (place id) ≡ is_some (request_of q id)
  stands-at id = ap (λ (o : Option Request). is_some o) (request-at b q s stand id) ∙ some-map (request_in b) (request_of q id)

  pub first-done : (ids : List RequestId) → first_done q ids ≡ position (is_complete_at s) (map place ids)
  first-done ids =
      position-same (λ id. is_done (progress_of q id)) (λ id. is_complete_at s (place id)) (λ id. sym (complete-at id)) ids
      ∙ position-map place (is_complete_at s) ids

-- ---- places

pub all-named : (s : DomainState) (all ids : List RequestId) → list_all (λ id. stands_at s (place_of_id all id)) ids ≡ list_all (stands_at s) (map (place_of_id all) ids)
all-named s all [] = refl
all-named s all (i ∷ is) = ap (λ x. stands_at s (place_of_id all i) && x) (all-named s all is)

pub any-from : {A : Type 0} (p : A → Bool) (k : ℕ) (xs : List A) → is_some (position_from p k xs) ≡ list_any p xs
any-from p k [] = refl
any-from p k (x ∷ xs) = go (p x) (any-from p (k + 1) xs)
  where
    go : (t : Bool) → is_some (position_from p (k + 1) xs) ≡ list_any p xs → is_some (cond t (Some k) (position_from p (k + 1) xs)) ≡ (t || list_any p xs)
    go true rest = refl
    go false rest = rest

any-at : {A : Type 0} (p : A → Bool) (xs : List A) → is_some (position p xs) ≡ list_any p xs
any-at p xs = ap (λ o. is_some o) (position_from-zero p xs) ∙ any-from p 0 xs

-- ---- the word of a wait

-- by whether a request that it names does not exist, and whether none is complete
abbrev pub wait_by : Bool → Bool → Option Refusal
wait_by lacks_request lacks_complete = cond lacks_request (Some RequestInvalid) (cond lacks_complete (Some Timeout) None)

module _ (s : DomainState) (ps : List (Option ℕ)) (says_place : Bool) where
  abbrev all : Bool
  all = list_all (stands_at s) ps

  abbrev any : Bool
  any = list_any (is_complete_at s) ps

  pub word-is : refusal s 0 (wait_for ps says_place) ≡ wait_by (not all) (not any)
  word-is = refl

  pub wait-invalid : all ≡ false → refusal s 0 (wait_for ps says_place) ≡ Some RequestInvalid
  wait-invalid e = ap (λ t. wait_by (not t) (not any)) e

  pub wait-pends : all ≡ true → position (is_complete_at s) ps ≡ None → refusal s 0 (wait_for ps says_place) ≡ Some Timeout
  wait-pends e none =
      ap (λ t. wait_by (not t) (not any)) e
      ∙ ap (λ t. wait_by false (not t)) (sym (any-at (is_complete_at s) ps) ∙ ap (λ o. is_some o) none)

  pub wait-ends : (at : ℕ) → all ≡ true → position (is_complete_at s) ps ≡ Some at → refusal s 0 (wait_for ps says_place) ≡ None
  wait-ends at e some =
      ap (λ t. wait_by (not t) (not any)) e
      ∙ ap (λ t. wait_by false (not t)) (sym (any-at (is_complete_at s) ps) ∙ ap (λ o. is_some o) some)

  abbrev answered : Bool → Bool → PlainAnswer
  answered x y = answer_by (wait_by x y) (success s 0 (wait_for ps says_place))

  -- a wait that has to wait: its requests exist
  pub wait-stood : is_timeout (answer s 0 (wait_for ps says_place)) ≡ true → all ≡ true
  wait-stood e = go all e
    where
      go : (t : Bool) → is_timeout (answered (not t) (not any)) ≡ true → t ≡ true
      go true e = refl
      go false e = absurd cc

-- and its word
pub timeout-word : (s : DomainState) (ps : List (Option ℕ)) (says_place : Bool) → is_timeout (answer s 0 (wait_for ps false)) ≡ true → refusal s 0 (wait_for ps says_place) ≡ Some Timeout
timeout-word s ps says_place e = go (not (list_all (stands_at s) ps)) (not (list_any (is_complete_at s) ps)) e
  where
    go : (x y : Bool) → is_timeout (answer_by (wait_by x y) (success s 0 (wait_for ps false))) ≡ true → wait_by x y ≡ Some Timeout
    go true y e = absurd cc
    go false true e = refl
    go false false e = absurd cc

-- one that needs not
pub no-wait : (s : DomainState) (ps : List (Option ℕ)) (says_place : Bool) (o : Option Refusal) → refusal s 0 (wait_for ps says_place) ≡ o → is_timeout (answer_by o (success s 0 (wait_for ps says_place))) ≡ false → is_timeout (answer s 0 (wait_for ps says_place)) ≡ false
no-wait s ps says_place o e is = ap (λ r. is_timeout (answer_by r (success s 0 (wait_for ps says_place)))) e ∙ is

-- ---- the first that is complete

module _ (s : DomainState) (ps : List (Option ℕ)) (at : ℕ) (is : position (is_complete_at s) ps ≡ Some at) where
  found : slice_get ps at ≡ find (is_complete_at s) ps
  found = sym (ap (λ o. option_and_then (λ i. slice_get ps i) o) is) ∙ get-position (is_complete_at s) ps

  pub first-is : (p : Option ℕ) → slice_get ps at ≡ Some p → first_complete s ps ≡ p
  first-is p here = ap (λ o. option_and_then (λ r. r) o) (sym found ∙ here)

  pub first-complete : (p : Option ℕ) → slice_get ps at ≡ Some p → is_complete_at s p ≡ true
  first-complete p here = found-passes (is_complete_at s) ps p (sym found ∙ here)

found-within : {A : Type 0} (p : A → Bool) (xs : List A) (i : ℕ) → position p xs ≡ Some i → i < length xs
found-within {A = A} p xs i is = go (find p xs) (sym (ap (λ o. option_and_then (λ j. slice_get xs j) o) is) ∙ get-position p xs) (sym (some-position p xs) ∙ ap (λ o. is_some o) is)
  where
    go : (o : Option A) → slice_get xs i ≡ o → is_some o ≡ true → i < length xs
    go None here some = absurd cc
    go (Some x) here some = slice_get_within xs i x here

module _ {L : Type 0} (ids : List RequestId) (d : DomainView L) (at : ℕ) (is : first_complete_in ids d ≡ Some at) where
  pub named-within : at < length ids
  named-within = omega (arith, found-within (is_complete_at d.state) (places_named ids d) at is, length-map ids (place_of_id d.ids))

  pub named-complete : (id : RequestId) → slice_get ids at ≡ Some id → is_complete_at d.state (place_of_id d.ids id) ≡ true
  named-complete id here = first-complete d.state (places_named ids d) at is (place_of_id d.ids id) (slice_get-map (place_of_id d.ids) ids at ∙ ap (option_map (place_of_id d.ids)) here)

pub some-within : {L : Type 0} (ids : List RequestId) (d : DomainView L) (o : Option ℕ) → o ≡ first_complete_in ids d → IfSome o (λ at. at < length ids)
some-within ids d None e = tt
some-within ids d (Some at) e = named-within ids d at (sym e)

-- a complete request can be tested
pub complete-test : (s : DomainState) (p : Option ℕ) → is_complete_at s p ≡ true → refusal s 0 (test_of p) ≡ None
complete-test s p e = test-is s p (request_at_place s p) refl ∙ go (request_at_place s p) e
  where
    go : (o : Option Request) → is_complete o ≡ true → test_by o ≡ None
    go None e = absurd cc
    go (Some r) e = ap (λ t. cond (not t) (Some Pending) None) e

-- and a test of it is answered with success
pub complete-ends : (s : DomainState) (p : Option ℕ) (r : Result Done Refusal) (out : List ℕ) (lends : Lending) → is_complete_at s p ≡ true → tested r out lends ≡ answer s 0 (test_of p) → IsOk r
complete-ends s p (Ok how) out lends e is = refl
complete-ends s p (Err word) out lends e is =
    let same : refuses word ≡ success s 0 (test_of p) = is ∙ ap (λ o. answer_by o (success s 0 (test_of p))) (complete-test s p e) in
    absurd cc
