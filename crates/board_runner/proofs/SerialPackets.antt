-- Serials of packets: a turn leaves those of the packets that are lent, and a call releases one of them at most and lends the next one
-- at most. The place of a packet is that of its serial.
use Rattle.std.proofs.Common.{◌≡◌, ℕ, false, ◌+◌, ◌<◌, ◌^◌, List, [], ◌∷◌, ◌++◌, length, map, Option, Some, None, position, option_map, option_to_list, refl, sym, ap, ◌∙◌, arith, append-nil, mod-eq_of_lt}
use Rattle.std.specs.Prelude.{◌==◌}
use Rattle.std.specs.List.{AllByRecursion}
use Rattle.std.proofs.lemmas.List.{map-append}
use Rattle.mc_base.specs.declared.channel.Side.{Side}
use Rattle.mc_base.specs.declared.channel.Side.TheVariants.{Sender, Receiver}
use Rattle.mc_base.specs.declared.refusal.Refusal.{Refusal}
use Rattle.mc_base.specs.declared.refusal.Refusal.TheVariants.{EndpInvalid}
use Rattle.board_model.specs.DomainCall.{DomainCall, create_at, delete_at, lookup_of, send_from, receive_at, request_at, available_at, connect_from, open_at, packet_from, lend_at, packet_request_at, release_of, scalar_from, scalar_at, close_at, test_of, wait_for, cancel_of, raw_to, turn_alone}
use Rattle.board_model.specs.Lists.{without}
use Rattle.board_model.specs.Journal.{Visit}
use Rattle.board_model.specs.State.{DomainState, ChannelEnd, Endpoint, Item, Asked, Request, LentPacket, Outcome, channel_of, message_at, packet_at, has_item, is_lent_as, is_at, queue_in, queue_at, live_at, request_at_place, place_of_packet}
use Rattle.mc_base.specs.Letter.{packet}
use Rattle.mc_base.specs.Pieces.{frames_needed}
use Rattle.board_model.specs.Change.{Change, endpoint_gone, best_gone, oldest_gone, channel_set, waiting_ended, request_added, request_gone, end_announced, buffers_used, packet_lent, packet_gone, channel_given, changed, changed_all}
use Rattle.board_model.specs.ChannelEnds.{opened_end}
use Rattle.board_model.specs.CallChanges.{at_live, at_end, new_sender, closing, best_item, lending, lent_by, lent_by_test, success_changes, effect}
use Rattle.board_model.specs.Choice.{oldest}
use Rattle.board_model.specs.Turn.{after_turn}
use Rattle.board_model.specs.Answer.{first_complete, local, holds, words_of, refusal, unless_refused}
use Rattle.board_model.specs.Labels.{success_packet, packet_given, packet_tested, packet_brought}
use Rattle.board_model.proofs.MessageAlls.{none-passes}
use Rattle.board_model.proofs.MessageLists.{get-position}
use Rattle.board_model.proofs.SerialRequests.{position-map, map-without, end_same, live_same}
use Rattle.board_model.proofs.StateEnds.{there_is}
use Rattle.board_model.proofs.TurnChanges.{IsOfTurn, turn-keeps}

-- the serials of the packets that are lent, in their order
abbrev pub packets : DomainState → List ℕ
packets s = map (λ p. p.serial) s.lent

-- ---- turns

change_packets : (s : DomainState) (c : Change) → IsOfTurn c → packets (changed s c) ≡ packets s
change_packets s (packet_lent i) is = absurd is
change_packets s (packet_gone place) is = absurd is
change_packets s other is = refl

change_lends : (s : DomainState) (c : Change) → IsOfTurn c → (changed s c).packets_lent ≡ s.packets_lent
change_lends s (packet_lent i) is = absurd is
change_lends s other is = refl

pub turn-packets : (s : DomainState) (vs : List Visit) → packets (after_turn s vs) ≡ packets s
turn-packets s vs = turn-keeps packets change_packets s vs

pub turn-lends : (s : DomainState) (vs : List Visit) → (after_turn s vs).packets_lent ≡ s.packets_lent
turn-lends s vs = turn-keeps (λ t. t.packets_lent) change_lends s vs

-- ---- calls

-- the place of the packet that a call releases
abbrev pub success_released : DomainCall → Option ℕ
success_released (release_of p) = p
success_released other = None

abbrev pub packet_released : DomainState → ℕ → DomainCall → Option ℕ
packet_released s node call = unless_refused (refusal s node call) None (success_released call)

-- a receive that is not refused finds its endpoint, where a packet is queued
module _ (s : DomainState) (node port : ℕ) where
  abbrev lends : Endpoint → List Change
  lends e = oldest_gone e.address ∷ lending (oldest e.queue)

  lends_at : refusal s node (lend_at port) ≡ None → (e : Endpoint) × (i : Item) × (live_at s (local node port) ≡ Some e) × (oldest e.queue ≡ Some i)
  lends_at none =
      let words = none-passes (holds s node (lend_at port)) (words_of (lend_at port)) none in
      let live = there_is s (local node port) words.0 in
      let there : queue_at s (local node port) ≡ live.0.queue = ap queue_in (get-position (is_at (local node port)) s.endpoints ∙ live.1) in
      let first = some_first live.0.queue (ap (λ (q : List Item). length q == 0) (sym there) ∙ words.1.1.1.1.1.1.0) in
      (live.0, first.0, live.1, first.1)
    where
      some_first : (q : List Item) → (length q == 0) ≡ false → (i : Item) × (oldest q ≡ Some i)
      some_first [] some = absurd cc
      some_first (i ∷ q) some = (i, refl)

-- what a test lends
module _ {X : Type 0} (f : DomainState → X) (g : Option ℕ → X) (t : DomainState) (none : f t ≡ g None) (one : (i : Item) → f (changed t (packet_lent i)) ≡ g (Some t.packets_lent)) where
  lent_is : (asked : Asked) (o : Option Outcome) → f (changed_all t (lent_by asked o)) ≡ g (packet_brought t asked o)
  lent_is (packet_at at) (Some (has_item i)) = one i
  lent_is asked o = none

  tested_is : (o : Option Request) → f (changed_all t (lent_by_test o)) ≡ g (packet_tested t o)
  tested_is None = none
  tested_is (Some r) = lent_is r.asked r.outcome

closing_keeps : {X : Type 0} (f : DomainState → X) → ((s : DomainState) (side : Side) (e : Endpoint) (c : ChannelEnd) → f (changed_all s (closing side e c)) ≡ f s) → (s : DomainState) (side : Side) (o : Option Endpoint) → f (changed_all s (at_end o (closing side))) ≡ f s
closing_keeps f same s side o = end_same f s o (closing side) (same s side)

closing_packets : (s : DomainState) (side : Side) (e : Endpoint) (c : ChannelEnd) → packets (changed_all s (closing side e c)) ≡ packets s
closing_packets s Sender e c = refl
closing_packets s Receiver e c = refl

closing_lends : (s : DomainState) (side : Side) (e : Endpoint) (c : ChannelEnd) → (changed_all s (closing side e c)).packets_lent ≡ s.packets_lent
closing_lends s Sender e c = refl
closing_lends s Receiver e c = refl

success_packets : (s : DomainState) (node : ℕ) (call : DomainCall) → refusal s node call ≡ None → packets (changed_all s (success_changes s node call)) ≡ without (success_released call) (packets s) ++ option_to_list (success_packet s call)
success_packets s node (create_at port) none = sym (append-nil (packets s))
success_packets s node (delete_at port) none = live_same packets s (live_at s (local node port)) (λ e. waiting_ended e.address EndpInvalid ∷ endpoint_gone e.address ∷ end_announced (record { local = e.local; address = e.address; create = false }) ∷ []) (λ e. refl) ∙ sym (append-nil (packets s))
success_packets s node (lookup_of name) none = sym (append-nil (packets s))
success_packets s node (send_from port to priority bytes) none = sym (append-nil (packets s))
success_packets s node (receive_at port max) none = live_same packets s (live_at s (local node port)) (λ e. best_gone e.address ∷ []) (λ e. refl) ∙ sym (append-nil (packets s))
success_packets s node (request_at port max) none = live_same packets s (live_at s (local node port)) (λ e. best_gone e.address ∷ request_added (message_at e.local max) (option_map has_item (best_item e)) ∷ []) (λ e. refl) ∙ sym (append-nil (packets s))
success_packets s node (available_at port) none = sym (append-nil (packets s))
success_packets s node (connect_from port to kind) none = live_same packets s (live_at s (local node port)) (λ e. buffers_used to.domain 1 ∷ channel_set e.address (Some (new_sender s to kind)) ∷ request_added (channel_of (s.channels_given + 1)) None ∷ channel_given ∷ []) (λ e. refl) ∙ sym (append-nil (packets s))
success_packets s node (open_at port side kind) none = end_same packets s (live_at s (local node port)) (λ e c. buffers_used c.peer 1 ∷ channel_set e.address (Some (opened_end c)) ∷ []) (λ e c. refl) ∙ sym (append-nil (packets s))
success_packets s node (packet_from port bytes) none = end_same packets s (live_at s (local node port)) (λ e c. buffers_used c.peer (frames_needed (packet c.number bytes)) ∷ []) (λ e c. refl) ∙ sym (append-nil (packets s))
success_packets s node (lend_at port) none =
    let there = lends_at s node port none in
    ap (λ o. packets (changed_all s (at_live o (lends s node port)))) there.2 ∙ (ap (λ o. packets (changed_all (changed s (oldest_gone there.0.address)) (lending o))) there.3 ∙ map-append (λ p. p.serial) s.lent _)
success_packets s node (packet_request_at port) none = live_same packets s (live_at s (local node port)) (λ e. oldest_gone e.address ∷ request_added (packet_at e.local) (option_map has_item (oldest e.queue)) ∷ []) (λ e. refl) ∙ sym (append-nil (packets s))
success_packets s node (release_of place) none = map-without (λ p. p.serial) place s.lent ∙ sym (append-nil (without place (packets s)))
success_packets s node (scalar_from port bits value) none = end_same packets s (live_at s (local node port)) (λ e c. buffers_used c.peer 1 ∷ []) (λ e c. refl) ∙ sym (append-nil (packets s))
success_packets s node (scalar_at port bits) none = live_same packets s (live_at s (local node port)) (λ e. oldest_gone e.address ∷ []) (λ e. refl) ∙ sym (append-nil (packets s))
success_packets s node (close_at port side) none = closing_keeps packets closing_packets s side (live_at s (local node port)) ∙ sym (append-nil (packets s))
success_packets s node (test_of p) none =
    let t = changed s (request_gone p) in
    tested_is packets (λ o. packets s ++ option_to_list o) t (sym (append-nil (packets s))) (λ i. map-append (λ p. p.serial) s.lent _) (request_at_place s p)
success_packets s node (wait_for requests says_place) none =
    let p = first_complete s requests in
    let t = changed s (request_gone p) in
    tested_is packets (λ o. packets s ++ option_to_list o) t (sym (append-nil (packets s))) (λ i. map-append (λ p. p.serial) s.lent _) (request_at_place s p)
success_packets s node (cancel_of p) none = sym (append-nil (packets s))
success_packets s node (raw_to to bytes) none = sym (append-nil (packets s))
success_packets s node turn_alone none = sym (append-nil (packets s))

-- the packet that a call releases is lent no more, and one that it lends comes last
pub call_packets : (s : DomainState) (node : ℕ) (call : DomainCall) → packets (effect s node call) ≡ without (packet_released s node call) (packets s) ++ option_to_list (packet_given s node call)
call_packets s node call = go (refusal s node call) refl
  where
    go : (o : Option Refusal) → refusal s node call ≡ o → packets (changed_all s (unless_refused o [] (success_changes s node call))) ≡ without (unless_refused o None (success_released call)) (packets s) ++ option_to_list (unless_refused o None (success_packet s call))
    go (Some w) is = sym (append-nil (packets s))
    go None is = success_packets s node call is

success_lends : (s : DomainState) (node : ℕ) (call : DomainCall) → refusal s node call ≡ None → s.packets_lent + 1 < 2 ^ 64 → (changed_all s (success_changes s node call)).packets_lent ≡ s.packets_lent + length (option_to_list (success_packet s call))
success_lends s node (create_at port) none small = omega arith
success_lends s node (delete_at port) none small = omega (arith, live_same (λ t. t.packets_lent) s (live_at s (local node port)) (λ e. waiting_ended e.address EndpInvalid ∷ endpoint_gone e.address ∷ end_announced (record { local = e.local; address = e.address; create = false }) ∷ []) (λ e. refl))
success_lends s node (lookup_of name) none small = omega arith
success_lends s node (send_from port to priority bytes) none small = omega arith
success_lends s node (receive_at port max) none small = omega (arith, live_same (λ t. t.packets_lent) s (live_at s (local node port)) (λ e. best_gone e.address ∷ []) (λ e. refl))
success_lends s node (request_at port max) none small = omega (arith, live_same (λ t. t.packets_lent) s (live_at s (local node port)) (λ e. best_gone e.address ∷ request_added (message_at e.local max) (option_map has_item (best_item e)) ∷ []) (λ e. refl))
success_lends s node (available_at port) none small = omega arith
success_lends s node (connect_from port to kind) none small = omega (arith, live_same (λ t. t.packets_lent) s (live_at s (local node port)) (λ e. buffers_used to.domain 1 ∷ channel_set e.address (Some (new_sender s to kind)) ∷ request_added (channel_of (s.channels_given + 1)) None ∷ channel_given ∷ []) (λ e. refl))
success_lends s node (open_at port side kind) none small = omega (arith, end_same (λ t. t.packets_lent) s (live_at s (local node port)) (λ e c. buffers_used c.peer 1 ∷ channel_set e.address (Some (opened_end c)) ∷ []) (λ e c. refl))
success_lends s node (packet_from port bytes) none small = omega (arith, end_same (λ t. t.packets_lent) s (live_at s (local node port)) (λ e c. buffers_used c.peer (frames_needed (packet c.number bytes)) ∷ []) (λ e c. refl))
success_lends s node (lend_at port) none small =
    let there = lends_at s node port none in
    ap (λ o. (changed_all s (at_live o (lends s node port))).packets_lent) there.2 ∙ (ap (λ o. (changed_all (changed s (oldest_gone there.0.address)) (lending o)).packets_lent) there.3 ∙ mod-eq_of_lt small)
success_lends s node (packet_request_at port) none small = omega (arith, live_same (λ t. t.packets_lent) s (live_at s (local node port)) (λ e. oldest_gone e.address ∷ request_added (packet_at e.local) (option_map has_item (oldest e.queue)) ∷ []) (λ e. refl))
success_lends s node (release_of place) none small = omega arith
success_lends s node (scalar_from port bits value) none small = omega (arith, end_same (λ t. t.packets_lent) s (live_at s (local node port)) (λ e c. buffers_used c.peer 1 ∷ []) (λ e c. refl))
success_lends s node (scalar_at port bits) none small = omega (arith, live_same (λ t. t.packets_lent) s (live_at s (local node port)) (λ e. oldest_gone e.address ∷ []) (λ e. refl))
success_lends s node (close_at port side) none small = omega (arith, closing_keeps (λ t. t.packets_lent) closing_lends s side (live_at s (local node port)))
success_lends s node (test_of p) none small =
    let t = changed s (request_gone p) in
    tested_is (λ t. t.packets_lent) (λ o. s.packets_lent + length (option_to_list o)) t (omega arith) (λ i. mod-eq_of_lt small) (request_at_place s p)
success_lends s node (wait_for requests says_place) none small =
    let p = first_complete s requests in
    let t = changed s (request_gone p) in
    tested_is (λ t. t.packets_lent) (λ o. s.packets_lent + length (option_to_list o)) t (omega arith) (λ i. mod-eq_of_lt small) (request_at_place s p)
success_lends s node (cancel_of p) none small = omega arith
success_lends s node (raw_to to bytes) none small = omega arith
success_lends s node turn_alone none small = omega arith

pub call_lends : (s : DomainState) (node : ℕ) (call : DomainCall) → s.packets_lent + 1 < 2 ^ 64 → (effect s node call).packets_lent ≡ s.packets_lent + length (option_to_list (packet_given s node call))
call_lends s node call small = go (refusal s node call) refl
  where
    go : (o : Option Refusal) → refusal s node call ≡ o → (changed_all s (unless_refused o [] (success_changes s node call))).packets_lent ≡ s.packets_lent + length (option_to_list (unless_refused o None (success_packet s call)))
    go (Some w) is = omega arith
    go None is = success_lends s node call is small

-- the serial of a packet that is lent is the number of packets that were lent before
brought_is : (s : DomainState) (asked : Asked) (o : Option Outcome) (m : ℕ) → packet_brought s asked o ≡ Some m → m ≡ s.packets_lent
brought_is s (packet_at at) (Some (has_item i)) m e = cc
brought_is s asked o m e = absurd cc

tested_serial : (s : DomainState) (o : Option Request) (m : ℕ) → packet_tested s o ≡ Some m → m ≡ s.packets_lent
tested_serial s None m e = absurd cc
tested_serial s (Some r) m e = brought_is s r.asked r.outcome m e

success_is : (s : DomainState) (call : DomainCall) (m : ℕ) → success_packet s call ≡ Some m → m ≡ s.packets_lent
success_is s (create_at port) m e = absurd cc
success_is s (delete_at port) m e = absurd cc
success_is s (lookup_of name) m e = absurd cc
success_is s (send_from port to priority bytes) m e = absurd cc
success_is s (receive_at port max) m e = absurd cc
success_is s (request_at port max) m e = absurd cc
success_is s (available_at port) m e = absurd cc
success_is s (connect_from port to kind) m e = absurd cc
success_is s (open_at port side kind) m e = absurd cc
success_is s (packet_from port bytes) m e = absurd cc
success_is s (lend_at port) m e = cc
success_is s (packet_request_at port) m e = absurd cc
success_is s (release_of place) m e = absurd cc
success_is s (scalar_from port bits value) m e = absurd cc
success_is s (scalar_at port bits) m e = absurd cc
success_is s (close_at port side) m e = absurd cc
success_is s (test_of p) m e = tested_serial s (request_at_place s p) m e
success_is s (wait_for requests says_place) m e = tested_serial s (request_at_place s (first_complete s requests)) m e
success_is s (cancel_of p) m e = absurd cc
success_is s (raw_to to bytes) m e = absurd cc
success_is s turn_alone m e = absurd cc

pub lent_is_next : (s : DomainState) (node : ℕ) (call : DomainCall) (m : ℕ) → packet_given s node call ≡ Some m → m ≡ s.packets_lent
lent_is_next s node call m e = go (refusal s node call) e
  where
    go : (o : Option Refusal) → unless_refused o None (success_packet s call) ≡ Some m → m ≡ s.packets_lent
    go (Some w) e = absurd cc
    go None e = success_is s call m e

-- ---- places

-- the place of a packet is that of its serial
pub place_is : (s : DomainState) (n : ℕ) → place_of_packet s n ≡ position (λ m. m == n) (packets s)
place_is s n = position-map (is_lent_as n) (λ m. m == n) (λ p. p.serial) s.lent (same s.lent)
  where
    same : (ps : List LentPacket) → AllByRecursion (λ p. is_lent_as n p ≡ (p.serial == n)) ps
    same [] = tt
    same (p ∷ ps) = (refl, same ps)
