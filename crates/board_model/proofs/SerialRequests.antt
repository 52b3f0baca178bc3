-- Serials of requests: a turn leaves those of the requests that stand, and a call ends one of them at most and gives the next
-- one at most. The place of a request is that of its serial.
use Rattle.mc_base.specs.Letter.{packet}
use Rattle.mc_base.specs.Pieces.{frames_needed}
use Rattle.std.proofs.Common.{◌≡◌, ℕ, zero, suc, ◌+◌, ◌<◌, ◌≤◌, ◌^◌, Bool, true, false, cond, List, [], ◌∷◌, ◌++◌, length, map, Option, Some, None, position, option_map, option_and_then, option_to_list, refl, sym, ap, ap₂, ◌∙◌, arith, append-nil, mod-eq_of_lt, eq-eqb, eqb-true}
use Rattle.std.specs.Prelude.{◌==◌, ◌&&◌, is_none}
use Rattle.std.specs.List.{position_from, AllByRecursion}
use Rattle.std.proofs.lemmas.Iterator.Adapters.{position_from-zero}
use Rattle.std.proofs.lemmas.List.{map-append}
use Rattle.mc_base.specs.FullName.{end_name}
use Rattle.mc_base.specs.declared.channel.Kind.{Kind}
use Rattle.mc_base.specs.declared.channel.Side.{Side}
use Rattle.mc_base.specs.declared.channel.Side.TheVariants.{Sender, Receiver}
use Rattle.mc_base.specs.declared.name.EndName.{EndName}
use Rattle.mc_base.specs.declared.refusal.Refusal.{Refusal}
use Rattle.mc_base.specs.declared.refusal.Refusal.TheVariants.{EndpInvalid, ChanClosed}
use Rattle.board_model.specs.DomainCall.{DomainCall, create_at, delete_at, lookup_of, send_from, receive_at, request_at, available_at, connect_from, open_at, packet_from, lend_at, packet_request_at, release_of, scalar_from, scalar_at, close_at, test_of, wait_for, cancel_of, raw_to, turn_alone}
use Rattle.board_model.specs.Lists.{without_at, without}
use Rattle.board_model.specs.Journal.{Visit}
use Rattle.board_model.specs.State.{DomainState, ChannelEnd, Endpoint, Item, Asked, Request, Outcome, channel_of, message_at, packet_at, has_address, has_item, has_ended, has_serial, endpoint_of, live_at, request_at_place, place_of_request, waits_at}
use Rattle.board_model.specs.Change.{Change, endpoint_gone, best_gone, oldest_gone, channel_set, item_handed, waiting_ended, name_found, connect_settled, request_added, request_gone, end_announced, buffers_used, packet_lent, channel_given, asks_for, connects_on, all_done, done_with, handed_in, ended_in, changed, changed_all}
use Rattle.board_model.specs.ChannelEnds.{opened_end}
use Rattle.board_model.specs.CallChanges.{at_live, at_end, new_sender, closing, best_item, lending, lent_by, lent_by_test, success_changes, effect, tested}
use Rattle.board_model.specs.Choice.{oldest}
use Rattle.board_model.specs.Turn.{after_turn}
use Rattle.board_model.specs.Answer.{first_complete, local, holds, words_of, refusal, unless_refused}
use Rattle.board_model.specs.Labels.{Labelled, serial_of, place_of_label, success_request, request_given}
use Rattle.board_model.proofs.MessageAlls.{none-passes}
use Rattle.board_model.proofs.ListsMapped.{map-changed_first}
use Rattle.board_model.proofs.StateEnds.{there_is, end-holds}
use Rattle.board_model.proofs.TurnChanges.{IsOfTurn, turn-keeps}

-- the serials of the requests that stand, in their order
abbrev pub serials : DomainState → List ℕ
serials s = map (λ r. r.serial) s.requests

-- ---- turns

-- a part that stays when each item changes
map-kept : {A B : Type 0} (g : A → B) (f : A → A) → ((x : A) → g (f x) ≡ g x) → (xs : List A) → map g (map f xs) ≡ map g xs
map-kept g f same [] = refl
map-kept {A} {B} g f same (x ∷ xs) = ap₂ (λ (y : B) (ys : List B). y ∷ ys) (same x) (map-kept g f same xs)

done_serial : (b : Bool) (o : Outcome) (r : Request) → (cond b (done_with o r) r).serial ≡ r.serial
done_serial true o r = refl
done_serial false o r = refl

handed_serials : (o : Option Endpoint) (i : Item) (rs : List Request) → map (λ r. r.serial) (handed_in o i rs) ≡ map (λ r. r.serial) rs
handed_serials None i rs = refl
handed_serials (Some e) i rs = map-changed_first (λ r. r.serial) (waits_at e.local) (done_with (has_item i)) (λ r. refl) rs

ended_serials : (o : Option Endpoint) (w : Refusal) (rs : List Request) → map (λ r. r.serial) (ended_in o w rs) ≡ map (λ r. r.serial) rs
ended_serials None w rs = refl
ended_serials (Some e) w rs = map-kept (λ r. r.serial) (λ r. cond (waits_at e.local r) (done_with (has_ended w) r) r) (λ r. done_serial (waits_at e.local r) (has_ended w) r) rs

complete_serials : (asks : Asked → Bool) (o : Outcome) (rs : List Request) → map (λ r. r.serial) (map (all_done asks o) rs) ≡ map (λ r. r.serial) rs
complete_serials asks o rs = map-kept (λ r. r.serial) (all_done asks o) (λ r. done_serial (is_none r.outcome && asks r.asked) o r) rs

-- no request is given or ended by a change of a turn
change_serials : (s : DomainState) (c : Change) → IsOfTurn c → serials (changed s c) ≡ serials s
change_serials s (item_handed a i) is = handed_serials (endpoint_of s a) i s.requests
change_serials s (name_found n a) is = complete_serials (asks_for n) (has_address a) s.requests
change_serials s (connect_settled n o) is = complete_serials (connects_on n) o s.requests
change_serials s (waiting_ended a w) is = ended_serials (endpoint_of s a) w s.requests
change_serials s (request_added asked o) is = absurd is
change_serials s (request_gone place) is = absurd is
change_serials s other is = refl

change_gives : (s : DomainState) (c : Change) → IsOfTurn c → (changed s c).requests_given ≡ s.requests_given
change_gives s (request_added asked o) is = absurd is
change_gives s other is = refl

pub turn_serials : (s : DomainState) (vs : List Visit) → serials (after_turn s vs) ≡ serials s
turn_serials s vs = turn-keeps serials change_serials s vs

pub turn_gives : (s : DomainState) (vs : List Visit) → (after_turn s vs).requests_given ≡ s.requests_given
turn_gives s vs = turn-keeps (λ t. t.requests_given) change_gives s vs

-- ---- calls

-- the place of the request that a call ends
abbrev pub success_ended : DomainState → DomainCall → Option ℕ
success_ended s (test_of p) = p
success_ended s (wait_for requests says_place) = first_complete s requests
success_ended s (cancel_of p) = p
success_ended s other = None

abbrev pub request_ended : DomainState → ℕ → DomainCall → Option ℕ
request_ended s node call = unless_refused (refusal s node call) None (success_ended s call)

pub map-without_at : {A B : Type 0} (f : A → B) (i : ℕ) (xs : List A) → map f (without_at i xs) ≡ without_at i (map f xs)
map-without_at f i [] = refl
map-without_at f zero (x ∷ xs) = refl
map-without_at f (suc i) (x ∷ xs) = ap (λ ys. f x ∷ ys) (map-without_at f i xs)

pub map-without : {A B : Type 0} (f : A → B) (o : Option ℕ) (xs : List A) → map f (without o xs) ≡ without o (map f xs)
map-without f None xs = refl
map-without f (Some i) xs = map-without_at f i xs

pub live_same : {X : Type 0} (f : DomainState → X) (s : DomainState) (o : Option Endpoint) (cs : Endpoint → List Change) → ((e : Endpoint) → f (changed_all s (cs e)) ≡ f s) → f (changed_all s (at_live o cs)) ≡ f s
live_same f s None cs same = refl
live_same f s (Some e) cs same = same e

-- a call on requests at an endpoint finds it
module _ (s : DomainState) (node port max : ℕ) where
  abbrev asks : Endpoint → List Change
  asks e = best_gone e.address ∷ request_added (message_at e.local max) (option_map has_item (best_item e)) ∷ []

  asked_at : refusal s node (request_at port max) ≡ None → (e : Endpoint) × (live_at s (local node port) ≡ Some e)
  asked_at none = there_is s (local node port) (none-passes (holds s node (request_at port max)) (words_of (request_at port max)) none).0

-- and so does one for a packet
module _ (s : DomainState) (node port : ℕ) where
  abbrev asks_packet : Endpoint → List Change
  asks_packet e = oldest_gone e.address ∷ request_added (packet_at e.local) (option_map has_item (oldest e.queue)) ∷ []

  packet_asked_at : refusal s node (packet_request_at port) ≡ None → (e : Endpoint) × (live_at s (local node port) ≡ Some e)
  packet_asked_at none = there_is s (local node port) (none-passes (holds s node (packet_request_at port)) (words_of (packet_request_at port)) none).0

-- a connect finds its endpoint, too
module _ (s : DomainState) (node port : ℕ) (to : EndName) (kind : Kind) where
  abbrev connects : Endpoint → List Change
  connects e = buffers_used to.domain 1 ∷ channel_set e.address (Some (new_sender s to kind)) ∷ request_added (channel_of (s.channels_given + 1)) None ∷ channel_given ∷ []

  connects_at : refusal s node (connect_from port to kind) ≡ None → (e : Endpoint) × (live_at s (local node port) ≡ Some e)
  connects_at none = there_is s (local node port) (none-passes (holds s node (connect_from port to kind)) (words_of (connect_from port to kind)) none).0

-- what opens and closes of ends keep
abbrev opens : Endpoint → ChannelEnd → List Change
opens e c = buffers_used c.peer 1 ∷ channel_set e.address (Some (opened_end c)) ∷ []

pub end_same : {X : Type 0} (f : DomainState → X) (s : DomainState) (o : Option Endpoint) (cs : Endpoint → ChannelEnd → List Change) → ((e : Endpoint) (c : ChannelEnd) → f (changed_all s (cs e c)) ≡ f s) → f (changed_all s (at_end o cs)) ≡ f s
end_same f s o cs same = end-holds (λ ds. f (changed_all s ds) ≡ f s) refl o cs (λ e c live has. same e c)

-- what sends over ends keep
abbrev sends_packet : List ℕ → Endpoint → ChannelEnd → List Change
sends_packet bytes e c = buffers_used c.peer (frames_needed (packet c.number bytes)) ∷ []

abbrev sends : Endpoint → ChannelEnd → List Change
sends e c = buffers_used c.peer 1 ∷ []

-- what no packet that is lent changes
module _ {X : Type 0} (f : DomainState → X) (kept : (s : DomainState) (i : Item) → f (changed s (packet_lent i)) ≡ f s) where
  lending_same : (s : DomainState) (o : Option Item) → f (changed_all s (lending o)) ≡ f s
  lending_same s None = refl
  lending_same s (Some i) = kept s i

  lent_same : (s : DomainState) (asked : Asked) (o : Option Outcome) → f (changed_all s (lent_by asked o)) ≡ f s
  lent_same s (packet_at at) (Some (has_item i)) = kept s i
  lent_same s asked o = refl

  tested_same : (s : DomainState) (o : Option Request) → f (changed_all s (lent_by_test o)) ≡ f s
  tested_same s None = refl
  tested_same s (Some r) = lent_same s r.asked r.outcome

closing_serials : (s : DomainState) (side : Side) (e : Endpoint) (c : ChannelEnd) → serials (changed_all s (closing side e c)) ≡ serials s
closing_serials s Sender e c = refl
closing_serials s Receiver e c = ended_serials (endpoint_of s e.address) ChanClosed s.requests

closing_gives : (s : DomainState) (side : Side) (e : Endpoint) (c : ChannelEnd) → (changed_all s (closing side e c)).requests_given ≡ s.requests_given
closing_gives s Sender e c = refl
closing_gives s Receiver e c = refl

tested_serials : (s : DomainState) (p : Option ℕ) → serials (changed_all s (tested s p)) ≡ without p (serials s) ++ []
tested_serials s p =
    tested_same serials (λ t i. refl) (changed s (request_gone p)) (request_at_place s p)
    ∙ map-without (λ r. r.serial) p s.requests ∙ sym (append-nil (without p (serials s)))

success_serials : (s : DomainState) (node : ℕ) (call : DomainCall) → refusal s node call ≡ None → serials (changed_all s (success_changes s node call)) ≡ without (success_ended s call) (serials s) ++ option_to_list (success_request s call)
success_serials s node (create_at port) none = complete_serials (asks_for (end_name s.number (local node port))) (has_address (1024 + s.endpoints_given)) s.requests ∙ sym (append-nil (serials s))
success_serials s node (delete_at port) none =
    live_same serials s (live_at s (local node port)) (λ e. waiting_ended e.address EndpInvalid ∷ endpoint_gone e.address ∷ end_announced (record { local = e.local; address = e.address; create = false }) ∷ [])
    (λ e. ended_serials (endpoint_of s e.address) EndpInvalid s.requests) ∙ sym (append-nil (serials s))
success_serials s node (lookup_of name) none = map-append (λ r. r.serial) s.requests _
success_serials s node (send_from port to priority bytes) none = sym (append-nil (serials s))
success_serials s node (receive_at port max) none = live_same serials s (live_at s (local node port)) (λ e. best_gone e.address ∷ []) (λ e. refl) ∙ sym (append-nil (serials s))
success_serials s node (request_at port max) none =
    ap (λ o. serials (changed_all s (at_live o (asks s node port max)))) (asked_at s node port max none).1 ∙ map-append (λ r. r.serial) s.requests _
success_serials s node (available_at port) none = sym (append-nil (serials s))
success_serials s node (connect_from port to kind) none =
    ap (λ o. serials (changed_all s (at_live o (connects s node port to kind)))) (connects_at s node port to kind none).1 ∙ map-append (λ r. r.serial) s.requests _
success_serials s node (open_at port side kind) none = end_same serials s (live_at s (local node port)) opens (λ e c. refl) ∙ sym (append-nil (serials s))
success_serials s node (packet_from port bytes) none = end_same serials s (live_at s (local node port)) (sends_packet bytes) (λ e c. refl) ∙ sym (append-nil (serials s))
success_serials s node (lend_at port) none =
    live_same serials s (live_at s (local node port)) (λ e. oldest_gone e.address ∷ lending (oldest e.queue)) (λ e. lending_same serials (λ t i. refl) (changed s (oldest_gone e.address)) (oldest e.queue)) ∙ sym (append-nil (serials s))
success_serials s node (packet_request_at port) none =
    ap (λ o. serials (changed_all s (at_live o (asks_packet s node port)))) (packet_asked_at s node port none).1 ∙ map-append (λ r. r.serial) s.requests _
success_serials s node (release_of place) none = sym (append-nil (serials s))
success_serials s node (scalar_from port bits value) none = end_same serials s (live_at s (local node port)) sends (λ e c. refl) ∙ sym (append-nil (serials s))
success_serials s node (scalar_at port bits) none = live_same serials s (live_at s (local node port)) (λ e. oldest_gone e.address ∷ []) (λ e. refl) ∙ sym (append-nil (serials s))
success_serials s node (close_at port side) none = end_same serials s (live_at s (local node port)) (closing side) (closing_serials s side) ∙ sym (append-nil (serials s))
success_serials s node (test_of p) none = tested_serials s p
success_serials s node (wait_for requests says_place) none = tested_serials s (first_complete s requests)
success_serials s node (cancel_of p) none = map-without (λ r. r.serial) p s.requests ∙ sym (append-nil (without p (serials s)))
success_serials s node (raw_to to bytes) none = sym (append-nil (serials s))
success_serials s node turn_alone none = sym (append-nil (serials s))

-- the request that a call ends is gone, and one that it gives comes last
pub call_serials : (s : DomainState) (node : ℕ) (call : DomainCall) → serials (effect s node call) ≡ without (request_ended s node call) (serials s) ++ option_to_list (request_given s node call)
call_serials s node call = go (refusal s node call) refl
  where
    go : (o : Option Refusal) → refusal s node call ≡ o → serials (changed_all s (unless_refused o [] (success_changes s node call))) ≡ without (unless_refused o None (success_ended s call)) (serials s) ++ option_to_list (unless_refused o None (success_request s call))
    go (Some w) is = sym (append-nil (serials s))
    go None is = success_serials s node call is

success_gives : (s : DomainState) (node : ℕ) (call : DomainCall) → refusal s node call ≡ None → s.requests_given + 1 < 2 ^ 64 → (changed_all s (success_changes s node call)).requests_given ≡ s.requests_given + length (option_to_list (success_request s call))
success_gives s node (create_at port) none small = omega arith
success_gives s node (delete_at port) none small =
    omega (arith, live_same (λ t. t.requests_given) s (live_at s (local node port)) (λ e. waiting_ended e.address EndpInvalid ∷ endpoint_gone e.address ∷ end_announced (record { local = e.local; address = e.address; create = false }) ∷ []) (λ e. refl))
success_gives s node (lookup_of name) none small = mod-eq_of_lt small
success_gives s node (send_from port to priority bytes) none small = omega arith
success_gives s node (receive_at port max) none small = omega (arith, live_same (λ t. t.requests_given) s (live_at s (local node port)) (λ e. best_gone e.address ∷ []) (λ e. refl))
success_gives s node (request_at port max) none small = ap (λ o. (changed_all s (at_live o (asks s node port max))).requests_given) (asked_at s node port max none).1 ∙ mod-eq_of_lt small
success_gives s node (available_at port) none small = omega arith
success_gives s node (connect_from port to kind) none small = ap (λ o. (changed_all s (at_live o (connects s node port to kind))).requests_given) (connects_at s node port to kind none).1 ∙ mod-eq_of_lt small
success_gives s node (open_at port side kind) none small = omega (arith, end_same (λ t. t.requests_given) s (live_at s (local node port)) opens (λ e c. refl))
success_gives s node (packet_from port bytes) none small = omega (arith, end_same (λ t. t.requests_given) s (live_at s (local node port)) (sends_packet bytes) (λ e c. refl))
success_gives s node (lend_at port) none small =
    omega (arith, live_same (λ t. t.requests_given) s (live_at s (local node port)) (λ e. oldest_gone e.address ∷ lending (oldest e.queue)) (λ e. lending_same (λ t. t.requests_given) (λ t i. refl) (changed s (oldest_gone e.address)) (oldest e.queue)))
success_gives s node (packet_request_at port) none small = ap (λ o. (changed_all s (at_live o (asks_packet s node port))).requests_given) (packet_asked_at s node port none).1 ∙ mod-eq_of_lt small
success_gives s node (release_of place) none small = omega arith
success_gives s node (scalar_from port bits value) none small = omega (arith, end_same (λ t. t.requests_given) s (live_at s (local node port)) sends (λ e c. refl))
success_gives s node (scalar_at port bits) none small = omega (arith, live_same (λ t. t.requests_given) s (live_at s (local node port)) (λ e. oldest_gone e.address ∷ []) (λ e. refl))
success_gives s node (close_at port side) none small = omega (arith, end_same (λ t. t.requests_given) s (live_at s (local node port)) (closing side) (closing_gives s side))
success_gives s node (test_of p) none small = omega (arith, tested_same (λ t. t.requests_given) (λ t i. refl) (changed s (request_gone p)) (request_at_place s p))
success_gives s node (wait_for requests says_place) none small = omega (arith, tested_same (λ t. t.requests_given) (λ t i. refl) (changed s (request_gone (first_complete s requests))) (request_at_place s (first_complete s requests)))
success_gives s node (cancel_of p) none small = omega arith
success_gives s node (raw_to to bytes) none small = omega arith
success_gives s node turn_alone none small = omega arith

pub call_gives : (s : DomainState) (node : ℕ) (call : DomainCall) → s.requests_given + 1 < 2 ^ 64 → (effect s node call).requests_given ≡ s.requests_given + length (option_to_list (request_given s node call))
call_gives s node call small = go (refusal s node call) refl
  where
    go : (o : Option Refusal) → refusal s node call ≡ o → (changed_all s (unless_refused o [] (success_changes s node call))).requests_given ≡ s.requests_given + length (option_to_list (unless_refused o None (success_request s call)))
    go (Some w) is = omega arith
    go None is = success_gives s node call is small

-- the serial that is given is the number of requests that were given before
success_is : (s : DomainState) (call : DomainCall) (m : ℕ) → success_request s call ≡ Some m → m ≡ s.requests_given
success_is s (create_at port) m e = absurd cc
success_is s (delete_at port) m e = absurd cc
success_is s (lookup_of name) m e = cc
success_is s (send_from port to priority bytes) m e = absurd cc
success_is s (receive_at port max) m e = absurd cc
success_is s (request_at port max) m e = cc
success_is s (available_at port) m e = absurd cc
success_is s (connect_from port to kind) m e = cc
success_is s (open_at port side kind) m e = absurd cc
success_is s (packet_from port bytes) m e = absurd cc
success_is s (lend_at port) m e = absurd cc
success_is s (packet_request_at port) m e = cc
success_is s (release_of place) m e = absurd cc
success_is s (scalar_from port bits value) m e = absurd cc
success_is s (scalar_at port bits) m e = absurd cc
success_is s (close_at port side) m e = absurd cc
success_is s (test_of p) m e = absurd cc
success_is s (wait_for requests says_place) m e = absurd cc
success_is s (cancel_of p) m e = absurd cc
success_is s (raw_to to bytes) m e = absurd cc
success_is s turn_alone m e = absurd cc

pub given_is : (s : DomainState) (node : ℕ) (call : DomainCall) (m : ℕ) → request_given s node call ≡ Some m → m ≡ s.requests_given
given_is s node call m e = go (refusal s node call) e
  where
    go : (o : Option Refusal) → unless_refused o None (success_request s call) ≡ Some m → m ≡ s.requests_given
    go (Some w) e = absurd cc
    go None e = success_is s call m e

-- a call gives one request at most
pub few_more : (new : Option ℕ) → length (option_to_list new) ≤ 1
few_more None = omega arith
few_more (Some m) = omega arith

-- ---- places

-- where two tests agree along a list and its image, so do the places at which they first pass
position_from-map : {A B : Type 0} (p : A → Bool) (q : B → Bool) (f : A → B) (k : ℕ) (xs : List A) → AllByRecursion (λ x. p x ≡ q (f x)) xs → position_from p k xs ≡ position_from q k (map f xs)
position_from-map p q f k [] same = refl
position_from-map p q f k (x ∷ xs) same =
    ap (λ b. cond b (Some k) (position_from p (k + 1) xs)) same.0 ∙ ap (λ o. cond (q (f x)) (Some k) o) (position_from-map p q f (k + 1) xs same.1)

pub position-map : {A B : Type 0} (p : A → Bool) (q : B → Bool) (f : A → B) (xs : List A) → AllByRecursion (λ x. p x ≡ q (f x)) xs → position p xs ≡ position q (map f xs)
position-map p q f xs same = position_from-zero p xs ∙ position_from-map p q f 0 xs same ∙ sym (position_from-zero q (map f xs))

-- the place of a request is that of its serial
pub place_is : (s : DomainState) (n : ℕ) → place_of_request s n ≡ position (λ m. m == n) (serials s)
place_is s n = position-map (has_serial n) (λ m. m == n) (λ r. r.serial) s.requests (same s.requests)
  where
    same : (rs : List Request) → AllByRecursion (λ r. has_serial n r ≡ (r.serial == n)) rs
    same [] = tt
    same (r ∷ rs) = (refl, same rs)

-- things that stand for the requests, in their order and each with its serial: where all with the serial of a label have one
-- key, the place of that key and serial is the place of the label's request
pub keyed_place : {A : Type 0} (key serial : A → ℕ) (s : DomainState) (labels : List Labelled) (label : List ℕ) (k n : ℕ) (ids : List A) → map serial ids ≡ serials s → AllByRecursion (λ i. serial i ≡ n → key i ≡ k) ids → serial_of labels label ≡ Some n →
    position (λ i. key i == k && serial i == n) ids ≡ place_of_label labels s label
keyed_place {A} key serial s labels label k n ids stand keyed told =
    position-map (λ i. key i == k && serial i == n) (λ m. m == n) serial ids (agree ids keyed)
    ∙ ap (position (λ m. m == n)) stand ∙ sym (place_is s n) ∙ sym (ap (option_and_then (place_of_request s)) told)
  where
    by : (a b : Bool) → (b ≡ true → a ≡ true) → (a && b) ≡ b
    by true b f = refl
    by false true f = f refl
    by false false f = refl

    agree : (is : List A) → AllByRecursion (λ i. serial i ≡ n → key i ≡ k) is → AllByRecursion (λ i. (key i == k && serial i == n) ≡ (serial i == n)) is
    agree [] all = tt
    agree (i ∷ is) all = (by (key i == k) (serial i == n) (λ e. eq-eqb (key i) k (all.0 (eqb-true (serial i) n e))), agree is all.1)
