-- What holds of each item that a frame brings holds of all items that a domain holds, and of those that a call gives back.
use Rattle.board_model.specs.Parts.{Came, came_from, said_from}
use Rattle.mc_base.specs.Pieces.{frames_needed}
use Rattle.std.proofs.Common.{◌≡◌, ℕ, ◌+◌, Bool, false, not, ◌&&◌, cond, List, [], ◌∷◌, ◌++◌, map, Option, Some, None, refl, sym, subst}
use Rattle.std.specs.Prelude.{find, is_none, drop, slice_get, option_map, option_to_list, ◌==◌}
use Rattle.std.specs.List.{AllByRecursion}
use Rattle.std.proofs.lemmas.Bool.{cond_both}
use Rattle.mc_base.specs.Letter.{PlainLetter, packet}
use Rattle.mc_base.specs.Reading.{Reading}
use Rattle.mc_base.specs.declared.name.Local.{Local}
use Rattle.mc_base.specs.declared.channel.Side.{Side}
use Rattle.mc_base.specs.declared.channel.Side.TheVariants.{Sender, Receiver}
use Rattle.mc_base.specs.declared.refusal.Refusal.{Refusal}
use Rattle.mc_base.specs.declared.refusal.Refusal.TheVariants.{EndpInvalid}
use Rattle.board_model.specs.State.{Item, ChannelEnd, Endpoint, channel_of, message_at, packet_at, Asked, Outcome, has_address, is_accepted, is_rejected, has_item, has_ended, item_in, Request, LentPacket, DomainState, is_at, has_address_of, live_at, endpoint_of, request_at_place, packet_at_place, waits_at}
use Rattle.board_model.specs.Choice.{least, best, best_place, without_best, oldest}
use Rattle.board_model.specs.DomainCall.{DomainCall, create_at, delete_at, lookup_of, send_from, receive_at, request_at, available_at, connect_from, open_at, packet_from, lend_at, packet_request_at, release_of, scalar_from, scalar_at, close_at, test_of, wait_for, cancel_of, raw_to, turn_alone}
use Rattle.board_model.specs.Answer.{first_complete, local, address_of, refusal, unless_refused}
use Rattle.board_model.specs.Change.{Change, endpoint_made, endpoint_gone, item_queued, best_gone, oldest_gone, item_lost, channel_set, queue_dropped, request_added, item_handed, waiting_ended, name_found, connect_settled, request_gone, end_announced, reply_owed, owed_put, buffers_back, frames_shown, frame_taken, names_known, buffers_used, packet_lent, packet_gone, channel_given, asks_for, connects_on, done_with, handed_in, ended_in, with_queue, with_channel, without_queue, endpoint_with, changed, changed_all}
use Rattle.board_model.specs.TakenFrames.{Row, item_of, row_from}
use Rattle.board_model.specs.ChannelEnds.{opened_end}
use Rattle.board_model.specs.CallChanges.{at_live, new_sender, closing, lending, lent_by, lent_by_test, best_item, success_changes, call_changes, item_lent, message_held, held_by, success_returned, returned}
use Rattle.board_model.specs.Deeds.{Deed, looks_back, puts_owed, looks_ahead, takes, calls, after_deed, taken_change}
use Rattle.board_model.proofs.MessageAlls.{all-at, all-drop, all-append, all-filter, all-found, all-weaken, all-changed-first, all-without}
use Rattle.board_model.proofs.MessageLists.{best_is}
use Rattle.board_model.proofs.StateEnds.{end-holds}
use Rattle.board_model.proofs.LaneRows.{Deals, stays, strays, awaits, learns, forgets, hands, queues, loses, rejects, accepts, acts, acting-all, row-deals}

-- so holds of all that is queued, all that requests hold and all packets that are lent
pub record Held (P : Item → Type 0) (s : DomainState) : Type 0 where
  pub queued : AllByRecursion (λ e. AllByRecursion P e.queue) s.endpoints
  pub lent : AllByRecursion (λ r. AllByRecursion P (item_in r.outcome)) s.requests
  pub packets : AllByRecursion (λ p. P p.item) s.lent

pub held-weaker : (P Q : Item → Type 0) → ((i : Item) → P i → Q i) → (s : DomainState) → Held P s → Held Q s
held-weaker P Q weaker s held = record {
  queued = all-weaken (λ e. AllByRecursion P e.queue) (λ e. AllByRecursion Q e.queue) (λ e all. all-weaken P Q weaker e.queue all) s.endpoints held.queued;
  lent = all-weaken (λ r. AllByRecursion P (item_in r.outcome)) (λ r. AllByRecursion Q (item_in r.outcome)) (λ r all. all-weaken P Q weaker (item_in r.outcome) all) s.requests held.lent;
  packets = all-weaken (λ p. P p.item) (λ p. Q p.item) (λ p is. weaker p.item is) s.lent held.packets;
}

module _ (P : Item → Type 0) where
  -- a change by which what comes is so
  abbrev Brings : Change → Type 0
  Brings (item_queued a i) = P i
  Brings (item_handed a i) = P i
  Brings (packet_lent i) = P i
  Brings (request_added asked o) = AllByRecursion P (item_in o)
  Brings (connect_settled n o) = AllByRecursion P (item_in (Some o))
  Brings other = Unit {0}

  handed_holds : (o : Option Endpoint) (i : Item) (rs : List Request) → P i → AllByRecursion (λ r. AllByRecursion P (item_in r.outcome)) rs → AllByRecursion (λ r. AllByRecursion P (item_in r.outcome)) (handed_in o i rs)
  handed_holds None i rs one all = all
  handed_holds (Some e) i rs one all = all-changed-first (λ r. AllByRecursion P (item_in r.outcome)) (waits_at e.local) (done_with (has_item i)) rs all (λ r found before. (one, tt))

  -- those that pass are complete with nothing
  passed_holds : (test : Request → Bool) (o : Outcome) (rs : List Request) → AllByRecursion P (item_in (Some o)) → AllByRecursion (λ r. AllByRecursion P (item_in r.outcome)) rs → AllByRecursion (λ r. AllByRecursion P (item_in r.outcome)) (map (λ r. cond (test r) (done_with o r) r) rs)
  passed_holds test o [] one all = tt
  passed_holds test o (r ∷ rs) one all =
      (cond_both (test r) (done_with o r) r (λ q. AllByRecursion P (item_in q.outcome)) (λ on. one) (λ off. all.0), passed_holds test o rs one all.1)

  ended_holds : (o : Option Endpoint) (word : Refusal) (rs : List Request) → AllByRecursion (λ r. AllByRecursion P (item_in r.outcome)) rs → AllByRecursion (λ r. AllByRecursion P (item_in r.outcome)) (ended_in o word rs)
  ended_holds None word rs all = all
  ended_holds (Some e) word rs all = passed_holds (waits_at e.local) (has_ended word) rs tt all

  held-changed : (s : DomainState) (c : Change) → Brings c → Held P s → Held P (changed s c)
  held-changed s (endpoint_made at) one held = record { queued = all-append (λ e. AllByRecursion P e.queue) s.endpoints (endpoint_with s at ∷ []) held.queued (tt, tt); lent = held.lent; packets = held.packets }
  held-changed s (endpoint_gone a) one held = record { queued = all-filter (λ e. AllByRecursion P e.queue) (λ e. not (has_address_of a e)) s.endpoints held.queued; lent = held.lent; packets = held.packets }
  held-changed s (item_queued a i) one held = record {
    queued = all-changed-first (λ e. AllByRecursion P e.queue) (has_address_of a) (with_queue (λ q. q ++ i ∷ [])) s.endpoints held.queued (λ e found before. all-append P e.queue (i ∷ []) before (one, tt));
    lent = held.lent;
    packets = held.packets;
  }
  held-changed s (best_gone a) one held = record {
    queued = all-changed-first (λ e. AllByRecursion P e.queue) (has_address_of a) (with_queue (without_best (λ i. i.priority))) s.endpoints held.queued (λ e found before. all-without P (best_place (λ i. i.priority) e.queue) e.queue before);
    lent = held.lent;
    packets = held.packets;
  }
  held-changed s (oldest_gone a) one held = record {
    queued = all-changed-first (λ e. AllByRecursion P e.queue) (has_address_of a) (with_queue (drop 1)) s.endpoints held.queued (λ e found before. all-drop P 1 e.queue before);
    lent = held.lent;
    packets = held.packets;
  }
  held-changed s (item_lost a i) one held = record { queued = held.queued; lent = held.lent; packets = held.packets }
  held-changed s (channel_set a c) one held = record {
    queued = all-changed-first (λ e. AllByRecursion P e.queue) (has_address_of a) (with_channel c) s.endpoints held.queued (λ e found before. before);
    lent = held.lent;
    packets = held.packets;
  }
  held-changed s (queue_dropped a c) one held = record {
    queued = all-changed-first (λ e. AllByRecursion P e.queue) (has_address_of a) (without_queue c) s.endpoints held.queued (λ e found before. tt);
    lent = held.lent;
    packets = held.packets;
  }
  held-changed s (request_added asked o) one held = record { queued = held.queued; lent = all-append (λ r. AllByRecursion P (item_in r.outcome)) s.requests (record { serial = s.requests_given; asked = asked; outcome = o } ∷ []) held.lent (one, tt); packets = held.packets }
  held-changed s (item_handed a i) one held = record { queued = held.queued; lent = handed_holds (endpoint_of s a) i s.requests one held.lent; packets = held.packets }
  held-changed s (waiting_ended a word) one held = record { queued = held.queued; lent = ended_holds (endpoint_of s a) word s.requests held.lent; packets = held.packets }
  held-changed s (name_found n a) one held = record { queued = held.queued; lent = passed_holds (λ r. is_none r.outcome && asks_for n r.asked) (has_address a) s.requests tt held.lent; packets = held.packets }
  held-changed s (connect_settled n o) one held = record { queued = held.queued; lent = passed_holds (λ r. is_none r.outcome && connects_on n r.asked) o s.requests one held.lent; packets = held.packets }
  held-changed s (request_gone place) one held = record { queued = held.queued; lent = all-without (λ r. AllByRecursion P (item_in r.outcome)) place s.requests held.lent; packets = held.packets }
  held-changed s (end_announced a) one held = record { queued = held.queued; lent = held.lent; packets = held.packets }
  held-changed s (reply_owed n r) one held = record { queued = held.queued; lent = held.lent; packets = held.packets }
  held-changed s (owed_put n) one held = record { queued = held.queued; lent = held.lent; packets = held.packets }
  held-changed s (buffers_back n count) one held = record { queued = held.queued; lent = held.lent; packets = held.packets }
  held-changed s (frames_shown n count) one held = record { queued = held.queued; lent = held.lent; packets = held.packets }
  held-changed s (frame_taken n part names) one held = record { queued = held.queued; lent = held.lent; packets = held.packets }
  held-changed s (names_known n names) one held = record { queued = held.queued; lent = held.lent; packets = held.packets }
  held-changed s (buffers_used n count) one held = record { queued = held.queued; lent = held.lent; packets = held.packets }
  held-changed s (packet_lent i) one held = record { queued = held.queued; lent = held.lent; packets = all-append (λ p. P p.item) s.lent (record { serial = s.packets_lent; item = i } ∷ []) held.packets (one, tt) }
  held-changed s (packet_gone place) one held = record { queued = held.queued; lent = held.lent; packets = all-without (λ p. P p.item) place s.lent held.packets }
  held-changed s channel_given one held = record { queued = held.queued; lent = held.lent; packets = held.packets }

  held_all : (s : DomainState) (cs : List Change) → AllByRecursion Brings cs → Held P s → Held P (changed_all s cs)
  held_all s [] one held = held
  held_all s (c ∷ cs) one held = held_all (changed s c) cs one.1 (held-changed s c one.0 held)

  -- ---- frames

  -- each item of the peer's frame is so
  row_brings : (s : DomainState) (peer : ℕ) (name : Came) (frame : Reading) (r : Row) → ((source : ℕ) (l : PlainLetter) → P (item_of peer name source l)) → Deals s peer name frame r → AllByRecursion Brings r.happens
  row_brings s peer name frame r each (stays is gives) = subst (AllByRecursion Brings) (sym is) tt
  row_brings s peer name frame r each (strays source at q says none is word) = subst (AllByRecursion Brings) (sym is) tt
  row_brings s peer name frame r each (awaits source at q says some is word) = subst (AllByRecursion Brings) (sym is) tt
  row_brings s peer name frame r each (learns text n a names says named is gives) = subst (AllByRecursion Brings) (sym is) (tt, (tt, tt))
  row_brings s peer name frame r each (forgets text n a names says named is gives) = subst (AllByRecursion Brings) (sym is) (tt, tt)
  row_brings s peer name frame r each (hands source at l e says found carried waits is word) = subst (AllByRecursion Brings) (sym is) (each source l, tt)
  row_brings s peer name frame r each (queues source at l e says found carried none is word) = subst (AllByRecursion Brings) (sym is) (each source l, tt)
  row_brings s peer name frame r each (loses source at l e says found late is word) = subst (AllByRecursion Brings) (sym is) (tt, tt)
  row_brings s peer name frame r each (rejects source at number kind why says is gives) = subst (AllByRecursion Brings) (sym is) (tt, tt)
  row_brings s peer name frame r each (accepts source at number kind e says found none free is gives) = subst (AllByRecursion Brings) (sym is) (tt, (tt, tt))
  row_brings s peer name frame r each (acts source at l e c left says found has row is gives) = subst (AllByRecursion Brings) (sym is) (acting-all Brings at left tt (λ n. tt) (λ n why. tt) tt l)

  -- ---- calls

  best_holds : (q : List Item) → AllByRecursion P q → AllByRecursion P (option_to_list (best (λ i. i.priority) q))
  best_holds q all = go (best (λ i. i.priority) q) (sym (best_is (λ i. i.priority) q))
    where
      go : (o : Option Item) → find (λ i. i.priority == least (λ i. i.priority) q) q ≡ o → AllByRecursion P (option_to_list o)
      go None found = tt
      go (Some i) found = (all-found P (λ i. i.priority == least (λ i. i.priority) q) q i all found, tt)

  oldest_holds : (q : List Item) → AllByRecursion P q → AllByRecursion P (option_to_list (oldest q))
  oldest_holds [] all = tt
  oldest_holds (i ∷ q) all = (all.0, tt)

  item_holds : (o : Option Item) → AllByRecursion P (option_to_list o) → AllByRecursion P (item_in (option_map has_item o))
  item_holds None one = tt
  item_holds (Some i) one = one

  address_holds : (o : Option ℕ) → AllByRecursion P (item_in (option_map has_address o))
  address_holds None = tt
  address_holds (Some a) = tt

  -- a packet that is lent
  lending_brings : (o : Option Item) → AllByRecursion P (option_to_list o) → AllByRecursion Brings (lending o)
  lending_brings None one = tt
  lending_brings (Some i) one = (one.0, tt)

  lent_brings : (asked : Asked) (o : Option Outcome) → AllByRecursion P (item_in o) → AllByRecursion Brings (lent_by asked o)
  lent_brings (packet_at at) None one = tt
  lent_brings (packet_at at) (Some (has_address a)) one = tt
  lent_brings (packet_at at) (Some is_accepted) one = tt
  lent_brings (packet_at at) (Some (is_rejected why)) one = tt
  lent_brings (packet_at at) (Some (has_item i)) one = (one.0, tt)
  lent_brings (packet_at at) (Some (has_ended word)) one = tt
  lent_brings asked o one = tt

  message_holds : (asked : Asked) (o : Option Outcome) → AllByRecursion P (item_in o) → AllByRecursion P (message_held asked o)
  message_holds (packet_at at) o one = tt
  message_holds asked o one = one

  module _ (s : DomainState) (held : Held P s) (node : ℕ) where
    pub queue_holds : (at : Local) (e : Endpoint) → live_at s at ≡ Some e → AllByRecursion P e.queue
    queue_holds at e live = all-found (λ (d : Endpoint). AllByRecursion P d.queue) (is_at at) s.endpoints e held.queued live

    live_holds : {A : Type 0} (R : A → Type 0) (f : Endpoint → List A) (at : Local) → ((e : Endpoint) → AllByRecursion P e.queue → AllByRecursion R (f e)) → AllByRecursion R (at_live (live_at s at) f)
    live_holds {A = A} R f at each = go (live_at s at) refl
      where
        go : (o : Option Endpoint) → live_at s at ≡ o → AllByRecursion R (at_live o f)
        go None live = tt
        go (Some e) live = each e (queue_holds at e live)

    -- what the request at a place holds
    request_holds : {A : Type 0} (R : A → Type 0) (f : Option Request → List A) → AllByRecursion R (f None) → ((r : Request) → AllByRecursion P (item_in r.outcome) → AllByRecursion R (f (Some r))) → (place : Option ℕ) → AllByRecursion R (f (request_at_place s place))
    request_holds R f none each None = none
    request_holds R f none each (Some i) = go (slice_get s.requests i) refl
      where
        go : (o : Option Request) → slice_get s.requests i ≡ o → AllByRecursion R (f o)
        go None at = none
        go (Some r) at = each r (all-at (λ (q : Request). AllByRecursion P (item_in q.outcome)) s.requests i r held.lent at)

    packet_holds : (place : Option ℕ) → AllByRecursion P (item_lent (packet_at_place s place))
    packet_holds None = tt
    packet_holds (Some i) = go (slice_get s.lent i) refl
      where
        go : (o : Option LentPacket) → slice_get s.lent i ≡ o → AllByRecursion P (item_lent o)
        go None at = tt
        go (Some p) at = (all-at (λ (q : LentPacket). P q.item) s.lent i p held.packets at, tt)

    closing_brings : (side : Side) (e : Endpoint) (c : ChannelEnd) → AllByRecursion Brings (closing side e c)
    closing_brings Sender e c = (tt, (tt, tt))
    closing_brings Receiver e c = (tt, (tt, (tt, tt)))

    success_brings : (call : DomainCall) → AllByRecursion Brings (success_changes s node call)
    success_brings (create_at port) = (tt, (tt, (tt, tt)))
    success_brings (delete_at port) =
        live_holds Brings (λ e. waiting_ended e.address EndpInvalid ∷ endpoint_gone e.address ∷ end_announced (record { local = e.local; address = e.address; create = false }) ∷ []) (local node port) (λ e one. (tt, (tt, (tt, tt))))
    success_brings (lookup_of name) = (address_holds (address_of s name), tt)
    success_brings (send_from port to priority bytes) = (tt, tt)
    success_brings (receive_at port max) = live_holds Brings (λ e. best_gone e.address ∷ []) (local node port) (λ e one. (tt, tt))
    success_brings (request_at port max) =
        live_holds Brings (λ e. best_gone e.address ∷ request_added (message_at e.local max) (option_map has_item (best_item e)) ∷ []) (local node port)
        (λ e one. (tt, (item_holds (best_item e) (best_holds e.queue one), tt)))
    success_brings (available_at port) = tt
    success_brings (connect_from port to kind) =
        live_holds Brings (λ e. buffers_used to.domain 1 ∷ channel_set e.address (Some (new_sender s to kind)) ∷ request_added (channel_of (s.channels_given + 1)) None ∷ channel_given ∷ []) (local node port) (λ e one. (tt, (tt, (tt, (tt, tt)))))
    success_brings (open_at port side kind) = end-holds (AllByRecursion Brings) tt (live_at s (local node port)) (λ e c. buffers_used c.peer 1 ∷ channel_set e.address (Some (opened_end c)) ∷ []) (λ e c live has. (tt, (tt, tt)))
    success_brings (packet_from port bytes) = end-holds (AllByRecursion Brings) tt (live_at s (local node port)) (λ e c. buffers_used c.peer (frames_needed (packet c.number bytes)) ∷ []) (λ e c live has. (tt, tt))
    success_brings (lend_at port) = live_holds Brings (λ e. oldest_gone e.address ∷ lending (oldest e.queue)) (local node port) (λ e one. (tt, lending_brings (oldest e.queue) (oldest_holds e.queue one)))
    success_brings (packet_request_at port) =
        live_holds Brings (λ e. oldest_gone e.address ∷ request_added (packet_at e.local) (option_map has_item (oldest e.queue)) ∷ []) (local node port)
        (λ e one. (tt, (item_holds (oldest e.queue) (oldest_holds e.queue one), tt)))
    success_brings (release_of place) = (tt, tt)
    success_brings (scalar_from port bits value) = end-holds (AllByRecursion Brings) tt (live_at s (local node port)) (λ e c. buffers_used c.peer 1 ∷ []) (λ e c live has. (tt, tt))
    success_brings (scalar_at port bits) = live_holds Brings (λ e. oldest_gone e.address ∷ []) (local node port) (λ e one. (tt, tt))
    success_brings (close_at port side) = end-holds (AllByRecursion Brings) tt (live_at s (local node port)) (closing side) (λ e c live has. closing_brings side e c)
    success_brings (test_of request) = (tt, request_holds Brings lent_by_test tt (λ r one. lent_brings r.asked r.outcome one) request)
    success_brings (wait_for requests says_place) = (tt, request_holds Brings lent_by_test tt (λ r one. lent_brings r.asked r.outcome one) (first_complete s requests))
    success_brings (cancel_of request) = (tt, tt)
    success_brings (raw_to to bytes) = (tt, tt)
    success_brings turn_alone = tt

    call_brings : (call : DomainCall) → AllByRecursion Brings (call_changes s node call)
    call_brings call = go (refusal s node call)
      where
        go : (o : Option Refusal) → AllByRecursion Brings (unless_refused o [] (success_changes s node call))
        go (Some word) = tt
        go None = success_brings call

    -- what a call gives back
    success_returned_holds : (call : DomainCall) → AllByRecursion P (success_returned s node call)
    success_returned_holds (delete_at port) = live_holds P (λ e. e.queue) (local node port) (λ e one. one)
    success_returned_holds (receive_at port max) = live_holds P (λ e. option_to_list (best_item e)) (local node port) (λ e one. best_holds e.queue one)
    success_returned_holds (release_of place) = packet_holds place
    success_returned_holds (scalar_at port bits) = live_holds P (λ e. option_to_list (oldest e.queue)) (local node port) (λ e one. oldest_holds e.queue one)
    success_returned_holds (close_at port Sender) = tt
    success_returned_holds (close_at port Receiver) = live_holds P (λ e. e.queue) (local node port) (λ e one. one)
    success_returned_holds (test_of request) = request_holds P held_by tt (λ r one. message_holds r.asked r.outcome one) request
    success_returned_holds (wait_for requests says_place) = request_holds P held_by tt (λ r one. message_holds r.asked r.outcome one) (first_complete s requests)
    success_returned_holds other = tt

    pub returned-holds : (call : DomainCall) → AllByRecursion P (returned s node call)
    returned-holds call = go (refusal s node call)
      where
        go : (o : Option Refusal) → AllByRecursion P (unless_refused o [] (success_returned s node call))
        go (Some word) = tt
        go None = success_returned_holds call

  -- ---- deeds

  -- each item that a frame brings is so
  abbrev pub BringsItems : DomainState → Deed → Type 0
  BringsItems t (takes peer name frame word) = (source : ℕ) (l : PlainLetter) → P (item_of peer (came_from t peer name frame) source l)
  BringsItems t other = Unit {0}

  pub deed-holds : (t : DomainState) (d : Deed) → BringsItems t d → Held P t → Held P (after_deed t d)
  deed-holds t (looks_back peer count) each held = record { queued = held.queued; lent = held.lent; packets = held.packets }
  deed-holds t (puts_owed peer frame) each held = record { queued = held.queued; lent = held.lent; packets = held.packets }
  deed-holds t (looks_ahead peer count) each held = record { queued = held.queued; lent = held.lent; packets = held.packets }
  deed-holds t (takes peer name frame word) each held =
      held_all (changed t (taken_change peer (came_from t peer name frame))) (row_from t peer name frame).happens (row_brings t peer (came_from t peer name frame) (said_from t peer frame) (row_from t peer name frame) each (row-deals t peer (came_from t peer name frame) (said_from t peer frame))) (record { queued = held.queued; lent = held.lent; packets = held.packets })
  deed-holds t (calls node call a) each held = held_all t (call_changes t node call) (call_brings t held node call) held
