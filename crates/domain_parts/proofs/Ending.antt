-- A request that is tested off or cancelled.
use Rattle.mc_base.specs.declared.name.Local.{Local}
use Rattle.std.proofs.Common.{◌≡◌, ℕ, cond, List, [], ◌∷◌, length, map, take, Option, Some, None, refl, sym, ap, ◌∙◌, subst, arith}
use Rattle.std.specs.Prelude.{count_by, is_some, not, option_and_then, option_map, position, slice_get, Ok, Err}
use Rattle.mc_base.specs.declared.refusal.Refusal.{Refusal}
use Rattle.mc_base.specs.declared.refusal.Refusal.TheVariants.{RequestInvalid, Pending, TooLate}
use Rattle.mc_base.specs.declared.request.RequestId.{RequestId}
use Rattle.mc_base.specs.declared.request.Slot.{Slot}
use Rattle.board_model.specs.DomainCall.{DomainCall, test_of, cancel_of}
use Rattle.board_model.specs.Journal.{PlainResult, brought}
use Rattle.board_model.specs.Lists.{without}
use Rattle.board_model.specs.State as state
use Rattle.board_model.specs.State.{DomainState, Request, request_at_place}
use Rattle.board_model.specs.Answer.{refusal, result_by, result_of, unless_refused}
use Rattle.board_model.specs.CallChanges.{held_by, lent_by, lent_by_test, message_held}
use Rattle.board_model.proofs.ListsCounts.{count-cons}
use Rattle.buffer_book.specs.Book.{Book}
use Rattle.request_set.specs.declared.ask.Ask.{Ask}
use Rattle.request_set.specs.declared.ask.Ask.TheVariants as ask
use Rattle.request_set.specs.declared.ask.Complete.{Complete}
use Rattle.request_set.specs.declared.ask.Complete.TheVariants as complete
use Rattle.request_set.specs.Requests as set
use Rattle.request_set.specs.Requests.{Requests, Standing, is_id, progress_of, request_of, without_request}
use Rattle.domain_parts.specs.Calls.{place_ended, success_ends}
use Rattle.domain_parts.specs.DomainView.{place_of_id}
use Rattle.domain_parts.specs.Table.{with_requests}
use Rattle.domain_parts.specs.Records.{Records}
use Rattle.domain_parts.specs.InBook.{asked_in, content_in, numbered_at, outcome_in, request_in, requests_in, table_in, whole_at}
use Rattle.domain_parts.specs.InRequests.{AreReceives, Receives, handed_slots, slots_in}
use Rattle.domain_parts.proofs.Calling.{cancel_by, cancel-is, test_by, test-is}
use Rattle.domain_parts.proofs.Handed.{item-in}
use Rattle.domain_parts.proofs.Placed.{HasMore, HaveSame}
use Rattle.domain_parts.proofs.Receives.{differ-filter, each-filter, found-receives, gone-at, handed-less, length-filter, map-without, place-of_id, request-there}

-- ---- the request that a call names

abbrev pub ids_in : Requests → List RequestId
ids_in q = map (λ (r : Standing). r.id) q.standing

-- of a state that has the requests that stand
module _ (b : Book) (q : Requests) (s : DomainState) (stand : s.requests ≡ requests_in b q.standing) (id : RequestId) where
  abbrev place : Option ℕ
  place = place_of_id (ids_in q) id

  pub place-is : place ≡ position (is_id id) q.standing
  place-is = sym (place-of_id id q.standing)

  pub request-at : request_at_place s place ≡ option_map (request_in b) (request_of q id)
  request-at =
      ap (λ (rs : List Request). option_and_then (λ i. slice_get rs i) place) stand
      ∙ ap (λ (o : Option ℕ). option_and_then (λ i. slice_get (requests_in b q.standing) i) o) place-is
      ∙ request-there b id q.standing

  test-word : (r : Standing) (o : Option Complete) (word : Refusal) → r.complete ≡ o → set.tested (Some o) ≡ Err word → test_by (Some (request_in b r)) ≡ Some word
  test-word r None word e t = let same : Pending ≡ word = cc in ap (λ (x : Option Complete). cond (not (is_some (option_map (outcome_in b) x))) (Some Pending) None) e ∙ ap (λ (x : Refusal). Some x) same
  test-word r (Some c) word e t = absurd cc

  test-words : (o : Option Standing) (word : Refusal) → set.tested (option_map (λ (r : Standing). r.complete) o) ≡ Err word → test_by (option_map (request_in b) o) ≡ Some word
  test-words None word t = let same : RequestInvalid ≡ word = cc in ap (λ (x : Refusal). Some x) same
  test-words (Some r) word t = test-word r r.complete word refl t

  pub test-refused : (word : Refusal) → set.tested (progress_of q id) ≡ Err word → refusal s 0 (test_of place) ≡ Some word
  test-refused word t = test-is s place _ request-at ∙ test-words (request_of q id) word t

  test-none : (r : Standing) (o : Option Complete) (c : Complete) → r.complete ≡ o → o ≡ Some c → test_by (Some (request_in b r)) ≡ None
  test-none r o c e t = ap (λ (x : Option Complete). cond (not (is_some (option_map (outcome_in b) x))) (Some Pending) None) (e ∙ t)

  test-nones : (o : Option Standing) (c : Complete) → option_map (λ (r : Standing). r.complete) o ≡ Some (Some c) → test_by (option_map (request_in b) o) ≡ None
  test-nones None c t = absurd cc
  test-nones (Some r) c t = let same : r.complete ≡ Some c = cc in test-none r r.complete c refl same

  pub test-done : (c : Complete) → progress_of q id ≡ Some (Some c) → refusal s 0 (test_of place) ≡ None
  test-done c t = test-is s place _ request-at ∙ test-nones (request_of q id) c t

  cancel-word : (r : Standing) (o : Option Complete) (word : Refusal) → r.complete ≡ o → set.cancelled (Some o) ≡ Err word → cancel_by (Some (request_in b r)) ≡ Some word
  cancel-word r None word e t = absurd cc
  cancel-word r (Some c) word e t = let same : TooLate ≡ word = cc in ap (λ (x : Option Complete). cond (is_some (option_map (outcome_in b) x)) (Some TooLate) None) e ∙ ap (λ (x : Refusal). Some x) same

  cancel-words : (o : Option Standing) (word : Refusal) → set.cancelled (option_map (λ (r : Standing). r.complete) o) ≡ Err word → cancel_by (option_map (request_in b) o) ≡ Some word
  cancel-words None word t = let same : RequestInvalid ≡ word = cc in ap (λ (x : Refusal). Some x) same
  cancel-words (Some r) word t = cancel-word r r.complete word refl t

  pub cancel-refused : (word : Refusal) → set.cancelled (progress_of q id) ≡ Err word → refusal s 0 (cancel_of place) ≡ Some word
  cancel-refused word t = cancel-is s place _ request-at ∙ cancel-words (request_of q id) word t

  cancel-nones : (o : Option Standing) → option_map (λ (r : Standing). r.complete) o ≡ Some None → cancel_by (option_map (request_in b) o) ≡ None
  cancel-nones None t = absurd cc
  cancel-nones (Some r) t = let same : r.complete ≡ None = cc in ap (λ (x : Option Complete). cond (is_some (option_map (outcome_in b) x)) (Some TooLate) None) same

  pub cancel-done : progress_of q id ≡ Some None → refusal s 0 (cancel_of place) ≡ None
  cancel-done t = cancel-is s place _ request-at ∙ cancel-nones (request_of q id) t

-- what may be cancelled is pending
pub cancel-pending : (o : Option (Option Complete)) → set.cancelled o ≡ Ok tt → o ≡ Some None
cancel-pending None e = absurd cc
cancel-pending (Some None) e = refl
cancel-pending (Some (Some c)) e = absurd cc

-- the place of the request that ended
pub ended-refused : (s : DomainState) (node : ℕ) (call : DomainCall) (word : Refusal) → refusal s node call ≡ Some word → place_ended s node call ≡ None
ended-refused s node call word e = ap (λ (o : Option Refusal). unless_refused o None (success_ends s call)) e

pub ended-done : (s : DomainState) (node : ℕ) (call : DomainCall) → refusal s node call ≡ None → place_ended s node call ≡ success_ends s call
ended-done s node call e = ap (λ (o : Option Refusal). unless_refused o None (success_ends s call)) e

-- ---- the request that stood

pub request-found : (o : Option Standing) (c : Option Complete) → option_map (λ (r : Standing). r.complete) o ≡ Some c → (r : Standing) × (o ≡ Some r) × (r.complete ≡ c)
request-found None c e = absurd cc
request-found (Some r) c e = let same : r.complete ≡ c = cc in (r, refl, same)

result-is : (b : Book) (a : Ask) (slot : Slot) (max : ℕ) → Receives a (Some (complete.Message slot max)) → result_by (asked_in a) (option_map (outcome_in b) (Some (complete.Message slot max))) ≡ brought (length (content_in (whole_at b slot))) (take max (content_in (whole_at b slot)))
result-is b (ask.Message at most) slot max is = ap (λ (n : ℕ). brought (length (content_in (whole_at b slot))) (take n (content_in (whole_at b slot)))) (sym is)
result-is b (ask.Lookup name) slot max is = absurd is
result-is b (ask.Connect channel) slot max is = absurd is
result-is b (ask.Packet at) slot max is = absurd is

-- where no packet is held, none is lent, and what is held is a message
no-lend : (b : Book) (a : Ask) (o : Option Complete) → Receives a o → ((slot : Slot) → o ≡ Some (complete.Packet slot) → ⊥) → lent_by (asked_in a) (option_map (outcome_in b) o) ≡ []
no-lend b (ask.Lookup name) o is other = refl
no-lend b (ask.Connect channel) o is other = refl
no-lend b (ask.Message at max) o is other = refl
no-lend b (ask.Packet at) None is other = refl
no-lend b (ask.Packet at) (Some (complete.Address address)) is other = absurd is
no-lend b (ask.Packet at) (Some complete.Accepted) is other = absurd is
no-lend b (ask.Packet at) (Some (complete.Rejected reason)) is other = absurd is
no-lend b (ask.Packet at) (Some (complete.Message slot max)) is other = absurd is
no-lend b (ask.Packet at) (Some (complete.Packet slot)) is other = absurd (other slot refl)
no-lend b (ask.Packet at) (Some (complete.Ended word)) is other = refl

held-item : (b : Book) (a : Ask) (o : Option Complete) → Receives a o → ((slot : Slot) → o ≡ Some (complete.Packet slot) → ⊥) → message_held (asked_in a) (option_map (outcome_in b) o) ≡ state.item_in (option_map (outcome_in b) o)
held-item b (ask.Lookup name) o is other = refl
held-item b (ask.Connect channel) o is other = refl
held-item b (ask.Message at max) o is other = refl
held-item b (ask.Packet at) None is other = refl
held-item b (ask.Packet at) (Some (complete.Address address)) is other = absurd is
held-item b (ask.Packet at) (Some complete.Accepted) is other = absurd is
held-item b (ask.Packet at) (Some (complete.Rejected reason)) is other = absurd is
held-item b (ask.Packet at) (Some (complete.Message slot max)) is other = absurd is
held-item b (ask.Packet at) (Some (complete.Packet slot)) is other = absurd (other slot refl)
held-item b (ask.Packet at) (Some (complete.Ended word)) is other = refl

module _ (b : Book) (q : Requests) (s : DomainState) (stand : s.requests ≡ requests_in b q.standing) (id : RequestId) (receives : AreReceives q) (slot : Slot) (max : ℕ) (held : progress_of q id ≡ Some (Some (complete.Message slot max))) where
  abbrev how : Option Complete
  how = Some (complete.Message slot max)

  found : (r : Standing) × (request_of q id ≡ Some r) × (r.complete ≡ how)
  found = request-found (request_of q id) how held

  no-packet : (x : Slot) → found.0.complete ≡ Some (complete.Packet x) → ⊥
  no-packet x e = let both : Some (complete.Message slot max) ≡ Some (complete.Packet x) = sym found.2 ∙ e in cc

  -- what a test answers
  pub tested-result : result_of (request_at_place s (place_of_id (ids_in q) id)) ≡ brought (length (content_in (whole_at b slot))) (take max (content_in (whole_at b slot)))
  tested-result =
      let r = found.0 in
      let is : Receives r.ask how = subst (λ (o : Option Complete). Receives r.ask o) found.2 (found-receives (is_id id) r q.standing receives.each found.1) in
      ap result_of (request-at b q s stand id ∙ ap (option_map (request_in b)) found.1)
      ∙ ap (λ (o : Option Complete). result_by (asked_in r.ask) (option_map (outcome_in b) o)) found.2
      ∙ result-is b r.ask slot max is

  -- and what it gives back
  pub tested-items : held_by (request_at_place s (place_of_id (ids_in q) id)) ≡ numbered_at b slot ∷ []
  tested-items =
      ap (λ (o : Option state.Request). held_by o) (request-at b q s stand id ∙ ap (option_map (request_in b)) found.1)
      ∙ held-item b found.0.ask found.0.complete (found-receives (is_id id) found.0 q.standing receives.each found.1) no-packet
      ∙ ap (λ (o : Option Complete). state.item_in (option_map (outcome_in b) o)) found.2

  pub tested-fewer : HasMore slot (handed_slots (without_request q id).standing) (handed_slots q.standing)
  tested-fewer test =
      let less = handed-less test id how q.standing receives.differ held in
      let one = count-cons test slot [] in
      omega (arith, less, one)

  pub tested-lends : lent_by_test (request_at_place s (place_of_id (ids_in q) id)) ≡ []
  tested-lends =
      let r = found.0 in
      ap (λ (o : Option state.Request). lent_by_test o) (request-at b q s stand id ∙ ap (option_map (request_in b)) found.1)
      ∙ no-lend b r.ask r.complete (found-receives (is_id id) r q.standing receives.each found.1) no-packet

-- ---- what is left

pub left-receives : (q : Requests) (id : RequestId) → AreReceives q → AreReceives (without_request q id)
left-receives q id receives = record {
  each = each-filter (λ (r : Standing). not (is_id id r)) q.standing receives.each;
  differ = differ-filter (λ (r : Standing). not (is_id id r)) q.standing receives.differ;
  few = let few = receives.few in let fewer = length-filter (λ (r : Standing). not (is_id id r)) q.standing in omega (arith, few, fewer);
}

pub left-table : (b : Book) (r : Records) (q : Requests) (id : RequestId) (place : Option ℕ) → AreReceives q → place ≡ position (is_id id) q.standing → table_in b r (without_request q id) ≡ with_requests (table_in b r q) (without place (requests_in b q.standing))
left-table b r q id o receives at =
    let at-place = ap (λ (o : Option ℕ). without o (requests_in b q.standing)) (sym at) in
    ap (λ (xs : List state.Request). with_requests (table_in b r q) xs) (ap (requests_in b) (gone-at id q.standing receives.differ) ∙ map-without (request_in b) (position (is_id id) q.standing) q.standing ∙ at-place)

pub left-ids : (q : Requests) (id : RequestId) (place : Option ℕ) → AreReceives q → place ≡ position (is_id id) q.standing → map (λ (r : Standing). r.id) (without_request q id).standing ≡ without place (map (λ (r : Standing). r.id) q.standing)
left-ids q id o receives at =
    ap (map (λ (r : Standing). r.id)) (gone-at id q.standing receives.differ)
    ∙ map-without (λ (r : Standing). r.id) (position (is_id id) q.standing) q.standing
    ∙ ap (λ (o : Option ℕ). without o (map (λ (r : Standing). r.id) q.standing)) (sym at)

pub cancelled-same : (q : Requests) (id : RequestId) → AreReceives q → progress_of q id ≡ Some None → HaveSame (handed_slots q.standing) (handed_slots (without_request q id).standing)
cancelled-same q id receives pending test = let less = handed-less test id None q.standing receives.differ pending in omega (arith, less)

-- ---- a request that ended and held no message

-- what is tested off is complete
pub test-complete : (o : Option (Option Complete)) (how : Complete) → set.tested o ≡ Ok how → o ≡ Some (Some how)
test-complete None how e = absurd cc
test-complete (Some None) how e = absurd cc
test-complete (Some (Some c)) how e = cc

no-slots : (how : Complete) → ((slot : Slot) (max : ℕ) → how ≡ complete.Message slot max → ⊥) → ((slot : Slot) → how ≡ complete.Packet slot → ⊥) → slots_in (Some how) ≡ []
no-slots (complete.Address address) other packet = refl
no-slots complete.Accepted other packet = refl
no-slots (complete.Rejected reason) other packet = refl
no-slots (complete.Message slot max) other packet = absurd (other slot max refl)
no-slots (complete.Packet slot) other packet = absurd (packet slot refl)
no-slots (complete.Ended word) other packet = refl

module _ (b : Book) (q : Requests) (s : DomainState) (stand : s.requests ≡ requests_in b q.standing) (id : RequestId) (receives : AreReceives q) (how : Complete) (held : progress_of q id ≡ Some (Some how)) (other : (slot : Slot) (max : ℕ) → how ≡ complete.Message slot max → ⊥) (packet : (slot : Slot) → how ≡ complete.Packet slot → ⊥) where
  there : (r : Standing) × (request_of q id ≡ Some r) × (r.complete ≡ Some how)
  there = request-found (request_of q id) (Some how) held

  pub quiet-slots : slots_in (Some how) ≡ []
  quiet-slots = no-slots how other packet

  not-packet : (x : Slot) → there.0.complete ≡ Some (complete.Packet x) → ⊥
  not-packet x e = let both : Some how ≡ Some (complete.Packet x) = sym there.2 ∙ e in packet x cc

  pub quiet-result : (told : PlainResult) → ((asked : state.Asked) → told ≡ result_by asked (Some (outcome_in b how))) → told ≡ result_of (request_at_place s (place_of_id (ids_in q) id))
  quiet-result told is =
      let r = there.0 in
      is (asked_in r.ask)
      ∙ sym (ap result_of (request-at b q s stand id ∙ ap (option_map (request_in b)) there.1)
      ∙ ap (λ (o : Option Complete). result_by (asked_in r.ask) (option_map (outcome_in b) o)) there.2)

  pub quiet-items : held_by (request_at_place s (place_of_id (ids_in q) id)) ≡ []
  quiet-items =
      ap (λ (o : Option state.Request). held_by o) (request-at b q s stand id ∙ ap (option_map (request_in b)) there.1)
      ∙ held-item b there.0.ask there.0.complete (found-receives (is_id id) there.0 q.standing receives.each there.1) not-packet
      ∙ ap (λ (o : Option Complete). state.item_in (option_map (outcome_in b) o)) there.2
      ∙ item-in b (Some how)
      ∙ ap (map (numbered_at b)) quiet-slots

  pub quiet-lends : lent_by_test (request_at_place s (place_of_id (ids_in q) id)) ≡ []
  quiet-lends =
      let r = there.0 in
      ap (λ (o : Option state.Request). lent_by_test o) (request-at b q s stand id ∙ ap (option_map (request_in b)) there.1)
      ∙ no-lend b r.ask r.complete (found-receives (is_id id) r q.standing receives.each there.1) not-packet

  pub quiet-same : HaveSame (handed_slots q.standing) (handed_slots (without_request q id).standing)
  quiet-same test =
      let less = handed-less test id (Some how) q.standing receives.differ held in
      let none = ap (count_by test) quiet-slots in
      omega (arith, less, none)

-- a packet is held
pub held-packet : (o : Option (Option Complete)) (how : Complete) (slot : Slot) → set.tested o ≡ Ok how → how ≡ complete.Packet slot → o ≡ Some (Some (complete.Packet slot))
held-packet o how slot e is = test-complete o how e ∙ ap (λ (c : Complete). Some (Some c)) is

-- its request asked for one
pub packet-ask : (a : Ask) (slot : Slot) → Receives a (Some (complete.Packet slot)) → (at : Local) × (a ≡ ask.Packet at)
packet-ask (ask.Lookup name) slot is = absurd is
packet-ask (ask.Connect channel) slot is = absurd is
packet-ask (ask.Message at max) slot is = absurd is
packet-ask (ask.Packet at) slot is = (at, refl)

module _ (b : Book) (q : Requests) (s : DomainState) (stand : s.requests ≡ requests_in b q.standing) (id : RequestId) (receives : AreReceives q) (slot : Slot) (held : progress_of q id ≡ Some (Some (complete.Packet slot))) where
  abbrev pub packet : Option Complete
  packet = Some (complete.Packet slot)

  pub asked : (r : Standing) × (request_of q id ≡ Some r) × (r.complete ≡ packet)
  asked = request-found (request_of q id) packet held

  abbrev pub by : (at : Local) × (asked.0.ask ≡ ask.Packet at)
  by = packet-ask asked.0.ask slot (subst (λ (o : Option Complete). Receives asked.0.ask o) asked.2 (found-receives (is_id id) asked.0 q.standing receives.each asked.1))

  -- the request as the state has it
  abbrev pub request_for : Local → Request
  request_for at = record { serial = asked.0.id.serial; asked = state.packet_at at; outcome = Some (state.has_item (numbered_at b slot)) }

  pub packet-request : request_at_place s (place_of_id (ids_in q) id) ≡ Some (request_for by.0)
  packet-request =
      request-at b q s stand id
      ∙ ap (option_map (request_in b)) asked.1
      ∙ ap (λ (a : Ask). Some (record (request_in b asked.0) { asked = asked_in a })) by.1
      ∙ ap (λ (o : Option Complete). Some (record { serial = asked.0.id.serial; asked = state.packet_at by.0; outcome = option_map (outcome_in b) o })) asked.2

  pub packet-fewer : HasMore slot (handed_slots (without_request q id).standing) (handed_slots q.standing)
  packet-fewer test =
      let less = handed-less test id packet q.standing receives.differ held in
      let one = count-cons test slot [] in
      omega (arith, less, one)

pub held-message : (o : Option (Option Complete)) (how : Complete) (slot : Slot) (max : ℕ) → set.tested o ≡ Ok how → how ≡ complete.Message slot max → o ≡ Some (Some (complete.Message slot max))
held-message o how slot max e is = test-complete o how e ∙ ap (λ (c : Complete). Some (Some c)) is
