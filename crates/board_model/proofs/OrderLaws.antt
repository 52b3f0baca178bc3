-- Each receive takes the best of what stands, and each delete answers how many messages it drops: along every run of deeds.
use Rattle.std.proofs.Common.{◌≡◌, ◌⊎◌, inl, inr, ℕ, ◌+◌, ◌-◌, ◌<◌, ◌≤◌, ◌^◌, Bool, true, false, cond, List, [], ◌∷◌, ◌++◌, map, filter, flat_map, option_to_list, length, take, Option, Some, None, refl, sym, ap, ap₂, ◌∙◌, subst, arith}
use Rattle.std.specs.List.{AllByRecursion}
use Rattle.std.specs.Prelude.{Contains}
use Rattle.std.proofs.lemmas.Bool.{eq-eqb}
use Rattle.std.proofs.lemmas.List.{append-nil, append_assoc}
use Rattle.std.proofs.lemmas.List.Elements.{Contains-append_cases, Contains-push_cases}
use Rattle.mc_base.specs.declared.name.Local.{Local}
use Rattle.mc_base.specs.declared.refusal.Refusal.{Refusal}
use Rattle.byteorder.specs.Endian.{little_number}
use Rattle.mc_base.specs.Letter.{bytes_of_bits}
use Rattle.mc_base.specs.declared.channel.Bits.{Bits}
use Rattle.board_model.specs.Choice.{best, oldest}
use Rattle.board_model.specs.DomainCall.{delete_at, available_at, lend_at, receive_at, scalar_at, test_of, wait_for}
use Rattle.board_model.specs.Journal.{tells, gives}
use Rattle.board_model.specs.Scenario.{Neighbour}
use Rattle.board_model.specs.State.{Item, Endpoint, DomainState, opening, live_at, endpoint_at, queue_at, queue_in}
use Rattle.board_model.specs.Answer.{local, has_channel, holds, words_of, refusal, success, answer, answer_by, unless_refused, given, lent_whole, value_of}
use Rattle.board_model.specs.Change.{best_gone, oldest_gone, packet_lent, changed_all}
use Rattle.board_model.specs.CallChanges.{at_live, best_item, lending, success_changes, call_changes}
use Rattle.board_model.specs.Deeds.{Deed, calls, after_deed, after_deeds, MayDo, AllMayDo, along, EachDeed}
use Rattle.board_model.specs.Takings.{Taking, taking, is_message_taking, answered_by, completed_by, takings_by, cancelled_by}
use Rattle.board_model.specs.MessageOrder.{Gives, GivesTaken, is_by, taken_for, standing, TakesWhatComes, TakesBest, TestTells, DeleteTells, AvailableTells}
use Rattle.board_model.proofs.DeedRuns.{IsNamed, AreNamed, IsDeedRun}
use Rattle.board_model.proofs.OrderLookups.{live_found, free_here, none_holds}
use Rattle.board_model.proofs.OrderQueues.{messages_at, messages_of}
use Rattle.board_model.proofs.OrderDeeds.{Takes}
use Rattle.board_model.proofs.OrderSound.{Sound, sound_own}
use Rattle.board_model.proofs.OrderTakings.{all_old, none_taken}
use Rattle.board_model.proofs.OrderStands.{Stands, stands_more, given_few, all_done, done_same, taken_after}
use Rattle.board_model.proofs.OrderCancels.{cancels_done, test_tells, wait_tells}
use Rattle.board_model.proofs.OrderRequests.{IsDone, items_by, taken_more}
use Rattle.board_model.proofs.OrderSerials.{succeeds, all_succeed}
use Rattle.board_model.proofs.DeedJoins.{after-join}

-- ---- what holds of each deed where this is known

cancels_after : (start : DomainState) (before : List Deed) (d : Deed) → AllByRecursion (IsDone (λ k. taken_for start before k ++ items_by k (takings_by (after_deeds start before) d)) (after_deed (after_deeds start before) d).requests (after_deed (after_deeds start before) d).requests_given) (cancelled_by (after_deeds start before) d) →
    AllByRecursion (IsDone (taken_for start (before ++ d ∷ [])) (after_deed (after_deeds start before) d).requests (after_deed (after_deeds start before) d).requests_given) (cancelled_by (after_deeds start before) d)
cancels_after start before d all = all_done _ _ (λ k isdone. done_same (taken_more (taken_for start before) (takings_by (after_deeds start before) d)) (taken_for start (before ++ d ∷ [])) _ _ k (taken_after start before d) isdone) (cancelled_by (after_deeds start before) d) all

pub each_deed : (start : DomainState) (P : List Deed → Deed → Type 0) →
    ((room : ℕ) (before : List Deed) (d : Deed) → Stands room start before → MayDo (after_deeds start before) d → IsNamed before d → succeeds d ≤ room → P before d) →
    (room : ℕ) (before ds : List Deed) → Stands room start before → AllMayDo (after_deeds start before) ds → AreNamed before ds → all_succeed ds < room → EachDeed P before ds
each_deed start P holds room before [] stands may named few = tt
each_deed start P holds room before (d ∷ ds) stands may named few =
    let does = given_few room before (after_deeds start before) d may.0 named.0 (omega arith) stands.moment in
    let cancelled = cancels_done start before (after_deeds start before) stands.moment.serials.differ stands.moment.serials.below stands.held d may.0 in (
      holds room before d stands may.0 named.0 (omega arith),
      each_deed start P holds (room - succeeds d) (before ++ d ∷ []) ds (stands_more room start before d (succeeds d) named.0 does.1 (omega arith) (omega (arith, stands.moment.serials.small)) (cancels_after start before d cancelled) stands does.0)
          (subst (λ t. AllMayDo t ds) (sym (after-join start before (d ∷ []))) may.1) named.1 (omega arith),
    )

-- the opening
pub stands_open : (room number nodes : ℕ) (neighbours : List Neighbour) → room < 2 ^ 64 → Stands room (opening number nodes neighbours) []
stands_open room number nodes neighbours small = record {
  moment = record {
    sound = record { rise = omega arith; apart = tt; quiet = tt; bound = tt };
    serials = record { differ = tt; below = tt; small = omega arith };
    items = λ b. tt;
    apart = λ b. tt;
    held = record { queued = tt; lent = tt; packets = tt };
  };
  gone = λ b. tt;
  queues = λ b. refl;
  held = record { each = tt; fresh = λ k le. refl };
  done = tt;
}

-- ---- the best

-- a receive that answers
module _ (s : DomainState) (node port max : ℕ) (size : ℕ) (bytes : List ℕ) where
  given_is : (x : Option Item) → gives size bytes ≡ given max x → (i : Item) × (x ≡ Some i) × Gives max i size bytes
  given_is None is = absurd cc
  given_is (Some i) is = (i, refl, record { whole = size_is is; first = bytes_are is })
    where
      size_is : gives size bytes ≡ gives (length i.content) (take max i.content) → size ≡ length i.content
      size_is e = cc

      bytes_are : gives size bytes ≡ gives (length i.content) (take max i.content) → bytes ≡ take max i.content
      bytes_are e = cc

  found_best : (o : Option Endpoint) (i : Item) → best (λ x. x.priority) (queue_in o) ≡ Some i → (e : Endpoint) × (o ≡ Some e) × (best_item e ≡ Some i)
  found_best None i is = absurd cc
  found_best (Some e) i is = (e, refl, is)

  receive_gives : gives size bytes ≡ answer s node (receive_at port max) → GivesTaken s (calls node (receive_at port max) (gives size bytes))
  receive_gives may = go (refusal s node (receive_at port max)) refl may
    where
      go : (o : Option Refusal) → refusal s node (receive_at port max) ≡ o → gives size bytes ≡ answer_by o (success s node (receive_at port max)) → GivesTaken s (calls node (receive_at port max) (gives size bytes))
      go (Some w) refused is = absurd cc
      go None none is =
          let i = given_is (best (λ x. x.priority) (queue_at s (local node port))) is in
          let e = found_best (live_at s (local node port)) i.0 (ap (λ o. best (λ x. x.priority) (queue_in o)) (sym (live_found s (local node port))) ∙ i.1) in
          let answers : answered_by s (calls node (receive_at port max) (gives size bytes)) ≡ taking None e.0.address i.0 ∷ [] =
          ap (λ o. at_live o (λ f. map (taking None f.address) (option_to_list (best_item f)))) e.1 ∙ ap (λ x. map (taking None e.0.address) (option_to_list x)) e.2 in
          let after : call_changes s node (receive_at port max) ≡ best_gone e.0.address ∷ [] = ap (λ o. unless_refused o [] (success_changes s node (receive_at port max))) none ∙ ap (λ o. at_live o (λ f. best_gone f.address ∷ [])) e.1 in
          let rest : flat_map (completed_by s) (changed_all s (call_changes s node (receive_at port max))).requests ≡ [] = ap (λ cs. flat_map (completed_by s) (changed_all s cs).requests) after ∙ none_taken s s.requests (all_old s) in
          (taking None e.0.address i.0, ap₂ (λ xs ys. xs ++ ys) answers rest, i.2)

-- the oldest item of a live endpoint
found_oldest : (o : Option Endpoint) (i : Item) → oldest (queue_in o) ≡ Some i → (e : Endpoint) × (o ≡ Some e) × (oldest e.queue ≡ Some i)
found_oldest None i is = absurd cc
found_oldest (Some e) i is = (e, refl, is)

-- a receive of a packet that answers
module _ (s : DomainState) (node port : ℕ) (size : ℕ) (bytes : List ℕ) where
  lent_is : (x : Option Item) → gives size bytes ≡ lent_whole x → (i : Item) × (x ≡ Some i) × (size ≡ length i.content) × (bytes ≡ i.content)
  lent_is None is = absurd cc
  lent_is (Some i) is = (i, refl, size_is is, bytes_are is)
    where
      size_is : gives size bytes ≡ gives (length i.content) i.content → size ≡ length i.content
      size_is e = cc

      bytes_are : gives size bytes ≡ gives (length i.content) i.content → bytes ≡ i.content
      bytes_are e = cc

  lend_gives : gives size bytes ≡ answer s node (lend_at port) → GivesTaken s (calls node (lend_at port) (gives size bytes))
  lend_gives may = go (refusal s node (lend_at port)) refl may
    where
      go : (o : Option Refusal) → refusal s node (lend_at port) ≡ o → gives size bytes ≡ answer_by o (success s node (lend_at port)) → GivesTaken s (calls node (lend_at port) (gives size bytes))
      go (Some w) refused is = absurd cc
      go None none is =
          let i = lent_is (oldest (queue_at s (local node port))) is in
          let e = found_oldest (live_at s (local node port)) i.0 (ap (λ o. oldest (queue_in o)) (sym (live_found s (local node port))) ∙ i.1) in
          let answers : answered_by s (calls node (lend_at port) (gives size bytes)) ≡ taking None e.0.address i.0 ∷ [] =
          ap (λ o. at_live o (λ f. map (taking None f.address) (option_to_list (oldest f.queue)))) e.1 ∙ ap (λ x. map (taking None e.0.address) (option_to_list x)) e.2 in
          let after : call_changes s node (lend_at port) ≡ oldest_gone e.0.address ∷ packet_lent i.0 ∷ [] = ap (λ o. unless_refused o [] (success_changes s node (lend_at port))) none ∙ (ap (λ o. at_live o (λ f. oldest_gone f.address ∷ lending (oldest f.queue))) e.1 ∙ ap (λ x. oldest_gone e.0.address ∷ lending x) e.2) in
          let rest : flat_map (completed_by s) (changed_all s (call_changes s node (lend_at port))).requests ≡ [] = ap (λ cs. flat_map (completed_by s) (changed_all s cs).requests) after ∙ none_taken s s.requests (all_old s) in
          (taking None e.0.address i.0, ap₂ (λ xs ys. xs ++ ys) answers rest, i.2, i.3)

-- a receive of a scalar that answers
module _ (s : DomainState) (node port : ℕ) (bits : Bits) (value : ℕ) where
  value_is : (x : Option Item) → tells value ≡ value_of bits x → (i : Item) × (x ≡ Some i) × (value ≡ little_number (bytes_of_bits bits) i.content)
  value_is None is = absurd cc
  value_is (Some i) is = (i, refl, number_is is)
    where
      number_is : tells value ≡ tells (little_number (bytes_of_bits bits) i.content) → value ≡ little_number (bytes_of_bits bits) i.content
      number_is e = cc

  scalar_gives : tells value ≡ answer s node (scalar_at port bits) → GivesTaken s (calls node (scalar_at port bits) (tells value))
  scalar_gives may = go (refusal s node (scalar_at port bits)) refl may
    where
      go : (o : Option Refusal) → refusal s node (scalar_at port bits) ≡ o → tells value ≡ answer_by o (success s node (scalar_at port bits)) → GivesTaken s (calls node (scalar_at port bits) (tells value))
      go (Some w) refused is = absurd cc
      go None none is =
          let i = value_is (oldest (queue_at s (local node port))) is in
          let e = found_oldest (live_at s (local node port)) i.0 (ap (λ o. oldest (queue_in o)) (sym (live_found s (local node port))) ∙ i.1) in
          let answers : answered_by s (calls node (scalar_at port bits) (tells value)) ≡ taking None e.0.address i.0 ∷ [] =
          ap (λ o. at_live o (λ f. map (taking None f.address) (option_to_list (oldest f.queue)))) e.1 ∙ ap (λ x. map (taking None e.0.address) (option_to_list x)) e.2 in
          let after : call_changes s node (scalar_at port bits) ≡ oldest_gone e.0.address ∷ [] = ap (λ o. unless_refused o [] (success_changes s node (scalar_at port bits))) none ∙ ap (λ o. at_live o (λ f. oldest_gone f.address ∷ [])) e.1 in
          let rest : flat_map (completed_by s) (changed_all s (call_changes s node (scalar_at port bits))).requests ≡ [] = ap (λ cs. flat_map (completed_by s) (changed_all s cs).requests) after ∙ none_taken s s.requests (all_old s) in
          (taking None e.0.address i.0, ap₂ (λ xs ys. xs ++ ys) answers rest, i.2)

gives_taken : (s : DomainState) (d : Deed) → MayDo s d → GivesTaken s d
gives_taken s (calls node (receive_at port max) (gives size bytes)) may = receive_gives s node port max size bytes may
gives_taken s (calls node (lend_at port) (gives size bytes)) may = lend_gives s node port size bytes may
gives_taken s (calls node (scalar_at port bits) (tells value)) may = scalar_gives s node port bits value may
gives_taken s other may = tt

takes_best : (start : DomainState) (room : ℕ) (before : List Deed) (d : Deed) → Stands room start before → MayDo (after_deeds start before) d → IsNamed before d → succeeds d ≤ room → TakesBest start before d
takes_best start room before d stands may named few =
    let does = given_few room before (after_deeds start before) d may named few stands.moment in
    (each (filter is_message_taking (takings_by (after_deeds start before) d)) does.0.takes_best, gives_taken (after_deeds start before) d may)
  where
    one : (t : Taking) → Takes (after_deeds start before) d t → (best (λ i. i.priority) (standing start before t.address) ≡ Some t.item) ⊎ TakesWhatComes start before d t
    one t (inl is) = inl (ap (best (λ i. i.priority)) (sym (stands.queues t.address)) ∙ is)
    one t (inr hands) = inr (record { nothing_stands = sym (stands.queues t.address) ∙ hands.nothing_queued; comes = hands.comes; waits = hands.waits })

    each : (ts : List Taking) → AllByRecursion (Takes (after_deeds start before) d) ts → AllByRecursion (λ t. (best (λ i. i.priority) (standing start before t.address) ≡ Some t.item) ⊎ TakesWhatComes start before d t) ts
    each [] all = tt
    each (t ∷ ts) all = (one t all.0, each ts all.1)

-- ---- a call that counts what is queued at an endpoint without a channel

module _ (start : DomainState) (room : ℕ) (before : List Deed) (stands : Stands room start before) (at : Local) (none : has_channel (endpoint_at (after_deeds start before) at) ≡ false) where
  queue_stands : (o : Option Endpoint) → live_at (after_deeds start before) at ≡ o → length (queue_in o) ≡ length (at_live o (λ e. standing start before e.address))
  queue_stands None is = refl
  queue_stands (Some e) is =
      let free : e.channel ≡ None = free_here (after_deeds start before) at e is none in
      ap length (sym (ap messages_of (sound_own (after_deeds start before) stands.moment.sound at e is) ∙ ap (λ c. messages_at c e.queue) free) ∙ stands.queues e.address)

  queued_stands : length (queue_at (after_deeds start before) at) ≡ length (at_live (live_at (after_deeds start before) at) (λ e. standing start before e.address))
  queued_stands = ap (λ o. length (queue_in o)) (live_found (after_deeds start before) at) ∙ queue_stands (live_at (after_deeds start before) at) refl

count_is : (n m : ℕ) → tells n ≡ tells m → n ≡ m
count_is n m e = cc

delete_tells : (start : DomainState) (room : ℕ) (before : List Deed) (d : Deed) → Stands room start before → MayDo (after_deeds start before) d → IsNamed before d → succeeds d ≤ room → DeleteTells start before d
delete_tells start room before (calls node (delete_at port) (tells count)) stands may named few = go (refusal (after_deeds start before) node (delete_at port)) refl may
  where
    go : (o : Option Refusal) → refusal (after_deeds start before) node (delete_at port) ≡ o → tells count ≡ answer_by o (success (after_deeds start before) node (delete_at port)) → count ≡ length (at_live (live_at (after_deeds start before) (local node port)) (λ e. standing start before e.address))
    go (Some w) some is = absurd cc
    go None none is =
        let words = none_holds (holds (after_deeds start before) node (delete_at port)) (words_of (delete_at port)) none in
        count_is count (length (queue_at (after_deeds start before) (local node port))) is ∙ queued_stands start room before stands (local node port) words.1.0
delete_tells start room before other stands may named few = tt

available_tells : (start : DomainState) (room : ℕ) (before : List Deed) (d : Deed) → Stands room start before → MayDo (after_deeds start before) d → IsNamed before d → succeeds d ≤ room → AvailableTells start before d
available_tells start room before (calls node (available_at port) (tells count)) stands may named few = go (refusal (after_deeds start before) node (available_at port)) refl may
  where
    go : (o : Option Refusal) → refusal (after_deeds start before) node (available_at port) ≡ o → tells count ≡ answer_by o (success (after_deeds start before) node (available_at port)) → count ≡ length (at_live (live_at (after_deeds start before) (local node port)) (λ e. standing start before e.address))
    go (Some w) some is = absurd cc
    go None none is =
        let words = none_holds (holds (after_deeds start before) node (available_at port)) (words_of (available_at port)) none in
        count_is count (length (queue_at (after_deeds start before) (local node port))) is ∙ queued_stands start room before stands (local node port) words.1.0
available_tells start room before other stands may named few = tt

-- ---- a test

test_tells_taken : (start : DomainState) (room : ℕ) (before : List Deed) (d : Deed) → Stands room start before → MayDo (after_deeds start before) d → IsNamed before d → succeeds d ≤ room → TestTells start before d
test_tells_taken start room before (calls node (test_of place) a) stands may named few = test_tells start before (after_deeds start before) stands.moment.serials.differ stands.moment.serials.below stands.held node place a may
test_tells_taken start room before (calls node (wait_for requests says_place) a) stands may named few = wait_tells start before stands.moment.serials.differ stands.moment.serials.below stands.held node requests says_place a may
test_tells_taken start room before other stands may named few = tt

-- ---- along a run from an opening

module _ (number nodes : ℕ) (neighbours : List Neighbour) (ds : List Deed) (run : IsDeedRun (opening number nodes neighbours) ds) (few : all_succeed ds + 1 < 2 ^ 64) where
  pub run_takes_best : EachDeed (TakesBest (opening number nodes neighbours)) [] ds
  run_takes_best = each_deed (opening number nodes neighbours) (TakesBest (opening number nodes neighbours)) (takes_best (opening number nodes neighbours)) (all_succeed ds + 1) [] ds (stands_open (all_succeed ds + 1) number nodes neighbours few) run.may run.named (omega arith)

  pub run_deletes_tell : EachDeed (DeleteTells (opening number nodes neighbours)) [] ds
  run_deletes_tell = each_deed (opening number nodes neighbours) (DeleteTells (opening number nodes neighbours)) (delete_tells (opening number nodes neighbours)) (all_succeed ds + 1) [] ds (stands_open (all_succeed ds + 1) number nodes neighbours few) run.may run.named (omega arith)

  pub run_available_tell : EachDeed (AvailableTells (opening number nodes neighbours)) [] ds
  run_available_tell = each_deed (opening number nodes neighbours) (AvailableTells (opening number nodes neighbours)) (available_tells (opening number nodes neighbours)) (all_succeed ds + 1) [] ds (stands_open (all_succeed ds + 1) number nodes neighbours few) run.may run.named (omega arith)

  pub run_tests_tell : EachDeed (TestTells (opening number nodes neighbours)) [] ds
  run_tests_tell = each_deed (opening number nodes neighbours) (TestTells (opening number nodes neighbours)) (test_tells_taken (opening number nodes neighbours)) (all_succeed ds + 1) [] ds (stands_open (all_succeed ds + 1) number nodes neighbours few) run.may run.named (omega arith)

-- ---- at each moment

abbrev pub AllQueues : DomainState → List Deed → Type 0
AllQueues s [] = Unit {0}
AllQueues s (d ∷ ds) = Sound s × AllQueues (after_deed s d) ds

all_queues : (start : DomainState) (before ds : List Deed) → EachDeed (λ b d. Sound (after_deeds start b)) before ds → AllQueues (after_deeds start before) ds
all_queues start before [] each = tt
all_queues start before (d ∷ ds) each = (each.0, subst (λ t. AllQueues t ds) (after-join start before (d ∷ [])) (all_queues start (before ++ d ∷ []) ds each.1))

-- what is queued is as it must be
module _ (number nodes : ℕ) (neighbours : List Neighbour) (ds : List Deed) (run : IsDeedRun (opening number nodes neighbours) ds) (few : all_succeed ds + 1 < 2 ^ 64) where
  pub run_queues : AllQueues (opening number nodes neighbours) ds
  run_queues = all_queues (opening number nodes neighbours) [] ds (each_deed (opening number nodes neighbours) (λ b d. Sound (after_deeds (opening number nodes neighbours) b)) (λ room b d stands may named less. stands.moment.sound) (all_succeed ds + 1) [] ds (stands_open (all_succeed ds + 1) number nodes neighbours few) run.may run.named (omega arith))

-- ---- a cancel

pub stands_end : (start : DomainState) (room : ℕ) (before ds : List Deed) → Stands room start before → AllMayDo (after_deeds start before) ds → AreNamed before ds → all_succeed ds < room → (left : ℕ) × Stands left start (before ++ ds)
stands_end start room before [] stands may named few = (room, subst (Stands room start) (sym (append-nil before)) stands)
stands_end start room before (d ∷ ds) stands may named few =
    let does = given_few room before (after_deeds start before) d may.0 named.0 (omega arith) stands.moment in
    let cancelled = cancels_done start before (after_deeds start before) stands.moment.serials.differ stands.moment.serials.below stands.held d may.0 in
    let next = stands_more room start before d (succeeds d) named.0 does.1 (omega arith) (omega (arith, stands.moment.serials.small)) (cancels_after start before d cancelled) stands does.0 in
    let rest = stands_end start (room - succeeds d) (before ++ d ∷ []) ds next (subst (λ t. AllMayDo t ds) (sym (after-join start before (d ∷ []))) may.1) named.1 (omega arith) in
    (rest.0, subst (Stands rest.0 start) (append_assoc before (d ∷ []) ds) rest.1)

none_in : (xs : List ℕ) → xs ≡ [] → (k : ℕ) → Contains xs k → ⊥
none_in xs is k has = let lt = has.1 in omega (arith, ap length is)

contains_one : (x k : ℕ) (xs : List ℕ) → Contains (x ∷ xs) k → (x ≡ k) ⊎ Contains xs k
contains_one x k xs has = elim (Contains-append_cases (x ∷ []) xs k has) [
  | inl here ↦ elim (Contains-push_cases [] x k here) [ inl none ↦ absurd (none_in [] refl k none) | inr same ↦ inl same ]
  | inr there ↦ inr there
]

all_contained : (P : ℕ → Type 0) (xs : List ℕ) (k : ℕ) → AllByRecursion P xs → Contains xs k → P k
all_contained P [] k all has = let lt = has.1 in absurd (omega arith)
all_contained P (x ∷ xs) k all has = elim (contains_one x k xs has) [ inl same ↦ subst P same all.0 | inr there ↦ all_contained P xs k all.1 there ]

-- a serial among those that took something took an item
took_some : (ts : List Taking) (k : ℕ) → Contains (flat_map (λ t. option_to_list t.request) ts) k → items_by k ts ≡ [] → ⊥
took_some [] k has none = let lt = has.1 in absurd (omega arith)
took_some (t ∷ ts) k has none = go t.request refl has (λ h e. took_some ts k h e)
  where
    rest : (b : Bool) → map (λ (x : Taking). x.item) (cond b (t ∷ filter (λ x. is_by k x.request) ts) (filter (λ x. is_by k x.request) ts)) ≡ [] → items_by k ts ≡ []
    rest true e = absurd cc
    rest false e = e

    go : (o : Option ℕ) → t.request ≡ o → Contains (option_to_list o ++ flat_map (λ x. option_to_list x.request) ts) k → (Contains (flat_map (λ x. option_to_list x.request) ts) k → items_by k ts ≡ [] → ⊥) → ⊥
    go None is has later = later has (rest (is_by k t.request) none)
    go (Some n) is has later = elim (contains_one n k (flat_map (λ x. option_to_list x.request) ts) has) [
      | inl same ↦ at_once (ap (λ o. is_by k o) is ∙ eq-eqb n k same) none
      | inr there ↦ later there (rest (is_by k t.request) none)
    ]
      where
        at_once : is_by k t.request ≡ true → items_by k (t ∷ ts) ≡ [] → ⊥
        at_once by e = let f : t.item ∷ items_by k ts ≡ [] = sym (ap (λ (b : Bool). map (λ (x : Taking). x.item) (cond b (t ∷ filter (λ x. is_by k x.request) ts) (filter (λ x. is_by k x.request) ts))) by) ∙ e in absurd cc

module _ (number nodes : ℕ) (neighbours : List Neighbour) (ds : List Deed) (run : IsDeedRun (opening number nodes neighbours) ds) (few : all_succeed ds + 1 < 2 ^ 64) where
  pub run_cancelled : (k : ℕ) → Contains (along cancelled_by (opening number nodes neighbours) ds) k → Contains (flat_map (λ t. option_to_list t.request) (along takings_by (opening number nodes neighbours) ds)) k → ⊥
  run_cancelled k cancelled took =
      let last = stands_end (opening number nodes neighbours) (all_succeed ds + 1) [] ds (stands_open (all_succeed ds + 1) number nodes neighbours few) run.may run.named (omega arith) in
      let isdone = all_contained (IsDone (taken_for (opening number nodes neighbours) ds) (after_deeds (opening number nodes neighbours) ds).requests (after_deeds (opening number nodes neighbours) ds).requests_given) (along cancelled_by (opening number nodes neighbours) ds) k last.1.done cancelled in
      took_some (along takings_by (opening number nodes neighbours) ds) k took isdone.nothing
