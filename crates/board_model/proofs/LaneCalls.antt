-- Calls of a domain: what they take of the items that are held.
use Rattle.mc_base.specs.Letter.{packet}
use Rattle.mc_base.specs.Pieces.{frames_needed}
use Rattle.std.proofs.Common.{◌≡◌, ℕ, zero, suc, ◌+◌, Bool, true, false, not, cond, List, [], ◌∷◌, ◌++◌, find, Option, Some, None, sum_by, flat_map, map, drop, slice_get, option_map, option_and_then, option_to_list, refl, sym, ap, ◌∙◌, subst, arith}
use Rattle.std.proofs.lemmas.List.{map-append}
use Rattle.std.proofs.lemmas.List.Concat.{flat_map-append}
use Rattle.mc_base.specs.Limits.{first_address}
use Rattle.mc_base.specs.FullName.{end_name}
use Rattle.mc_base.specs.declared.name.Local.{Local}
use Rattle.mc_base.specs.declared.channel.Side.TheVariants.{Sender, Receiver}
use Rattle.mc_base.specs.declared.refusal.Refusal.{Refusal}
use Rattle.mc_base.specs.declared.refusal.Refusal.TheVariants as word
use Rattle.board_model.specs.DomainCall.{DomainCall, create_at, delete_at, lookup_of, send_from, receive_at, request_at, available_at, connect_from, open_at, packet_from, lend_at, packet_request_at, release_of, scalar_from, scalar_at, close_at, test_of, wait_for, cancel_of, raw_to, turn_alone}
use Rattle.board_model.specs.Lists.{without_first, without}
use Rattle.board_model.specs.State.{DomainState, ChannelEnd, Endpoint, Item, Request, LentPacket, Asked, Outcome, name_of, channel_of, message_at, packet_at, has_address, is_accepted, is_rejected, has_item, has_ended, item_in, request_at_place, is_at, has_address_of, live_at, endpoint_of, channel_in}
use Rattle.board_model.specs.Choice.{without_best, oldest}
use Rattle.board_model.specs.ChannelEnds.{EndCall, opened_end, closed_end, closes}
use Rattle.board_model.specs.Answer.{first_complete, local, end_holds, holds, words_of, is_complete, refusal, unless_refused, address_of}
use Rattle.board_model.specs.Change.{Change, endpoint_gone, best_gone, oldest_gone, channel_set, request_added, request_gone, waiting_ended, end_announced, buffers_used, packet_lent, packet_gone, channel_given, endpoint_with, with_queue, without_queue, changed, changed_all}
use Rattle.board_model.specs.CallChanges.{at_live, at_channel, at_end, new_sender, closing, lending, lent_by, lent_by_test, best_item, success_changes, effect, item_lent, message_held, held_by, success_returned, returned, tested}
use Rattle.std.proofs.lemmas.List.Sums.{sum_by-cons, sum_by-append}
use Rattle.board_model.proofs.ListsCounts.{find-none}
use Rattle.board_model.proofs.MessageBest.{sum-best}
use Rattle.board_model.proofs.StateEnds.{Ends, by_address, end-holds}
use Rattle.board_model.proofs.LaneTakes.{held, sum-first, pending_holds, asked_items, lent_counts, found_asked, ended_asked, ended-holds, set-holds}

-- ---- endpoints

created_counts : (w : Item → ℕ) (es : List Endpoint) (e : Endpoint) → e.queue ≡ [] → sum_by w (flat_map (λ x. x.queue) (es ++ e ∷ [])) ≡ sum_by w (flat_map (λ x. x.queue) es)
created_counts w es e empty =
    ap (sum_by w) (flat_map-append (λ x. x.queue) es (e ∷ []))
    ∙ sum_by-append w (flat_map (λ x. x.queue) es) (e.queue ++ [])
    ∙ ap (λ q. sum_by w (flat_map (λ x. x.queue) es) + sum_by w (q ++ [])) empty
    ∙ omega arith

-- the first that passes is gone with what it holds
gone_counts : (w : Item → ℕ) (p : Endpoint → Bool) (e : Endpoint) (es : List Endpoint) → find p es ≡ Some e → sum_by w (flat_map (λ x. x.queue) (without_first p es)) + sum_by w e.queue ≡ sum_by w (flat_map (λ x. x.queue) es)
gone_counts w p e [] found = absurd cc
gone_counts w p e (x ∷ es) found = go (p x) found (λ later. gone_counts w p e es later)
  where
    go : (b : Bool) → cond b (Some x) (find p es) ≡ Some e → (find p es ≡ Some e → sum_by w (flat_map (λ y. y.queue) (without_first p es)) + sum_by w e.queue ≡ sum_by w (flat_map (λ y. y.queue) es)) →
        sum_by w (flat_map (λ y. y.queue) (cond b es (x ∷ without_first p es))) + sum_by w e.queue ≡ sum_by w (flat_map (λ y. y.queue) (x ∷ es))
    go true is later = let same : x ≡ e = cc in omega (arith, sum_by-append w x.queue (flat_map (λ (y : Endpoint). y.queue) es), ap (λ (y : Endpoint). sum_by w y.queue) same)
    go false is later = omega (arith, sum_by-append w x.queue (flat_map (λ (y : Endpoint). y.queue) (without_first p es)), sum_by-append w x.queue (flat_map (λ (y : Endpoint). y.queue) es), later is)

-- ---- requests

-- a new request holds what it is complete with
asked_counts : (w : Item → ℕ) (rs : List Request) (r : Request) → sum_by w (asked_items (rs ++ r ∷ [])) ≡ sum_by w (asked_items rs) + sum_by w (item_in r.outcome)
asked_counts w rs r =
    ap (sum_by w) (flat_map-append (λ (x : Request). item_in x.outcome) rs (r ∷ []))
    ∙ sum_by-append w (asked_items rs) (item_in r.outcome ++ [])
    ∙ omega (arith, sum_by-append w (item_in r.outcome) [])

item_asked : (o : Option Item) → item_in (option_map has_item o) ≡ option_to_list o
item_asked None = refl
item_asked (Some i) = refl

address_asked : (o : Option ℕ) → item_in (option_map has_address o) ≡ []
address_asked None = refl
address_asked (Some a) = refl

-- the item that a request holds
abbrev whole : Option Request → List Item
whole None = []
whole (Some r) = item_in r.outcome

-- what the request at a place holds is gone with it
ended_counts : (w : Item → ℕ) (o : Option ℕ) (rs : List Request) → sum_by w (asked_items (without o rs)) + sum_by w (whole (option_and_then (λ i. slice_get rs i) o)) ≡ sum_by w (asked_items rs)
ended_counts w None rs = omega arith
ended_counts w (Some i) [] = refl
ended_counts w (Some zero) (r ∷ rs) = omega (arith, sum_by-append w (item_in r.outcome) (asked_items rs))
ended_counts w (Some (suc i)) (r ∷ rs) =
    omega (arith, sum_by-append w (item_in r.outcome) (asked_items (without (Some i) rs)), sum_by-append w (item_in r.outcome) (asked_items rs), ended_counts w (Some i) rs)

-- a request that is cancelled is pending, and holds nothing
pending_none : (o : Option Request) → is_complete o ≡ false → whole o ≡ []
pending_none None e = refl
pending_none (Some r) e = pending_holds r.outcome (ap not e)

cancelled_holds : (s : DomainState) (node : ℕ) (request : Option ℕ) → refusal s node (cancel_of request) ≡ None → whole (request_at_place s request) ≡ []
cancelled_holds s node request e =
    let t = find-none (holds s node (cancel_of request)) (words_of (cancel_of request)) e in
    pending_none (request_at_place s request) t.1.0

-- ---- lent packets

-- the packet at a place is gone
released_counts : (w : Item → ℕ) (o : Option ℕ) (ps : List LentPacket) → sum_by w (map (λ p. p.item) (without o ps)) + sum_by w (item_lent (option_and_then (λ i. slice_get ps i) o)) ≡ sum_by w (map (λ p. p.item) ps)
released_counts w None ps = omega arith
released_counts w (Some i) [] = refl
released_counts w (Some zero) (p ∷ ps) = omega (arith, sum_by-cons w p.item (map (λ (q : LentPacket). q.item) ps), sum_by-cons w p.item [])
released_counts w (Some (suc i)) (p ∷ ps) =
    omega (arith, sum_by-cons w p.item (map (λ (q : LentPacket). q.item) (without (Some i) ps)), sum_by-cons w p.item (map (λ (q : LentPacket). q.item) ps), released_counts w (Some i) ps)

module _ (w : Item → ℕ) (t : DomainState) where
  lent_holds : (i : Item) → held w (changed t (packet_lent i)) ≡ held w t + sum_by w (i ∷ [])
  lent_holds i =
      let p : LentPacket = record { serial = t.packets_lent; item = i } in
      let more : sum_by w (map (λ (q : LentPacket). q.item) (t.lent ++ p ∷ [])) ≡ sum_by w (map (λ (q : LentPacket). q.item) t.lent) + sum_by w (i ∷ []) = ap (sum_by w) (map-append (λ (q : LentPacket). q.item) t.lent (p ∷ [])) ∙ sum_by-append w (map (λ (q : LentPacket). q.item) t.lent) (i ∷ []) in
      omega (arith, more, lent_counts w t, lent_counts w (changed t (packet_lent i)))

  lending_counts : (o : Option Item) → held w (changed_all t (lending o)) ≡ held w t + sum_by w (option_to_list o)
  lending_counts None = omega arith
  lending_counts (Some i) = lent_holds i

  -- a test lends the packet of its request, or gives back the message
  lent_by_counts : (asked : Asked) (o : Option Outcome) → held w (changed_all t (lent_by asked o)) + sum_by w (message_held asked o) ≡ held w t + sum_by w (item_in o)
  lent_by_counts (packet_at at) None = omega arith
  lent_by_counts (packet_at at) (Some (has_address a)) = omega arith
  lent_by_counts (packet_at at) (Some is_accepted) = omega arith
  lent_by_counts (packet_at at) (Some (is_rejected why)) = omega arith
  lent_by_counts (packet_at at) (Some (has_item i)) = omega (arith, lent_holds i)
  lent_by_counts (packet_at at) (Some (has_ended word)) = omega arith
  lent_by_counts asked o = refl

  tested_counts : (o : Option Request) → held w (changed_all t (lent_by_test o)) + sum_by w (held_by o) ≡ held w t + sum_by w (whole o)
  tested_counts None = refl
  tested_counts (Some r) = lent_by_counts r.asked r.outcome

-- the oldest is gone
count-oldest : (w : Item → ℕ) (q : List Item) → sum_by w (drop 1 q) + sum_by w (option_to_list (oldest q)) ≡ sum_by w q
count-oldest w [] = refl
count-oldest w (i ∷ q) = omega (arith, sum_by-cons w i q, sum_by-cons w i [])

-- ---- an end of a channel

-- a call at an end that is not refused finds one
pub record EndThere (o : Option Endpoint) : Type 0 where
  pub end : Endpoint
  pub channel : ChannelEnd
  pub live : o ≡ Some end
  pub has : end.channel ≡ Some channel

pub end-there : (call : EndCall) (o : Option Endpoint) → end_holds call (channel_in o) word.NotConnected ≡ false → EndThere o
end-there call None connected = absurd cc
end-there call (Some e) connected = go e.channel refl connected
  where
    go : (c : Option ChannelEnd) → e.channel ≡ c → end_holds call c word.NotConnected ≡ false → EndThere (Some e)
    go None has connected = absurd cc
    go (Some c) has connected = record { end = e; channel = c; live = refl; has = has }

-- ---- a call

module _ (w : Item → ℕ) (s : DomainState) (ends : Ends s) where
  -- the best of the queue of a live endpoint is gone
  best_counts : (at : Local) (e : Endpoint) → live_at s at ≡ Some e → held w (changed s (best_gone e.address)) + sum_by w (option_to_list (best_item e)) ≡ held w s
  best_counts at e live =
      let found : endpoint_of s e.address ≡ Some e = (by_address at s.endpoints e ends.apart live).found in
      let less = sum-first w (λ (x : Endpoint). x.queue) (has_address_of e.address) (with_queue (without_best (λ i. i.priority))) 0 (sum_by w (option_to_list (best_item e))) e s.endpoints found (omega (arith, sum-best w (λ (i : Item). i.priority) e.queue)) in
      omega (arith, less)

  -- its oldest is gone
  oldest_counts : (at : Local) (e : Endpoint) → live_at s at ≡ Some e → held w (changed s (oldest_gone e.address)) + sum_by w (option_to_list (oldest e.queue)) ≡ held w s
  oldest_counts at e live =
      let found : endpoint_of s e.address ≡ Some e = (by_address at s.endpoints e ends.apart live).found in
      let less = sum-first w (λ (x : Endpoint). x.queue) (has_address_of e.address) (with_queue (drop 1)) 0 (sum_by w (option_to_list (oldest e.queue))) e s.endpoints found (omega (arith, count-oldest w e.queue)) in
      omega (arith, less)

  deleted_counts : (at : Local) (e : Endpoint) → live_at s at ≡ Some e →
      held w (changed_all s (waiting_ended e.address word.EndpInvalid ∷ endpoint_gone e.address ∷ end_announced (record { local = e.local; address = e.address; create = false }) ∷ [])) + sum_by w e.queue ≡ held w s
  deleted_counts at e live =
      let by = by_address at s.endpoints e ends.apart live in
      let t = changed_all s (waiting_ended e.address word.EndpInvalid ∷ endpoint_gone e.address ∷ end_announced (record { local = e.local; address = e.address; create = false }) ∷ []) in
      omega (
        arith,
        ap (λ (es : List Endpoint). sum_by w (flat_map (λ x. x.queue) es)) by.gone,
        gone_counts w (is_at at) e s.endpoints live,
        lent_counts w s,
        lent_counts w t,
        ap (sum_by w) (ended_asked (endpoint_of s e.address) word.EndpInvalid s.requests),
      )

  -- all that is queued at a live endpoint is gone
  dropped_counts : (at : Local) (e : Endpoint) (c : ChannelEnd) → live_at s at ≡ Some e → held w (changed_all s (closing Receiver e c)) + sum_by w e.queue ≡ held w s
  dropped_counts at e c live =
      let found : endpoint_of s e.address ≡ Some e = (by_address at s.endpoints e ends.apart live).found in
      let u : DomainState = changed (changed s (buffers_used c.peer 1)) (waiting_ended e.address word.ChanClosed) in
      let less = sum-first w (λ (x : Endpoint). x.queue) (has_address_of e.address) (without_queue (closed_end c)) 0 (sum_by w e.queue) e s.endpoints found (omega arith) in
      omega (arith, less, ended-holds w (changed s (buffers_used c.peer 1)) e.address word.ChanClosed, lent_counts w u)

  -- a channel that is set keeps what is queued
  end_counts : (f : Endpoint → ChannelEnd → Option ChannelEnd) (o : Option Endpoint) → held w (changed_all s (at_end o (λ e c. buffers_used c.peer 1 ∷ channel_set e.address (f e c) ∷ []))) + 0 ≡ held w s
  end_counts f o = end-holds (λ cs. held w (changed_all s cs) + 0 ≡ held w s) (omega arith) o (λ e c. buffers_used c.peer 1 ∷ channel_set e.address (f e c) ∷ []) (λ e c live has. omega (arith, set-holds w (changed s (buffers_used c.peer 1)) e.address (f e c)))

  -- and so does a frame that is put
  used_counts : (count : ChannelEnd → ℕ) (o : Option Endpoint) → held w (changed_all s (at_end o (λ e c. buffers_used c.peer (count c) ∷ []))) + 0 ≡ held w s
  used_counts count o = end-holds (λ cs. held w (changed_all s cs) + 0 ≡ held w s) (omega arith) o (λ e c. buffers_used c.peer (count c) ∷ []) (λ e c live has. omega arith)

  live_counts : (node : ℕ) (at : Local) (f : Endpoint → List Change) (q : Endpoint → List Item) → ((e : Endpoint) → live_at s at ≡ Some e → held w (changed_all s (f e)) + sum_by w (q e) ≡ held w s) → held w (changed_all s (at_live (live_at s at) f)) + sum_by w (at_live (live_at s at) q) ≡ held w s
  live_counts node at f q each = go (live_at s at) refl
    where
      go : (o : Option Endpoint) → live_at s at ≡ o → held w (changed_all s (at_live o f)) + sum_by w (at_live o q) ≡ held w s
      go None is = omega arith
      go (Some e) is = each e is

  told_counts : (request : Option ℕ) → held w (changed_all s (tested s request)) + sum_by w (held_by (request_at_place s request)) ≡ held w s
  told_counts request =
      let u : DomainState = changed s (request_gone request) in
      omega (arith, tested_counts w u (request_at_place s request), ended_counts w request s.requests, lent_counts w s, lent_counts w u)

  success_counts : (node : ℕ) (call : DomainCall) → refusal s node call ≡ None → held w (changed_all s (success_changes s node call)) + sum_by w (success_returned s node call) ≡ held w s
  success_counts node (create_at port) e =
      let t = changed_all s (success_changes s node (create_at port)) in
      omega (arith, created_counts w s.endpoints (endpoint_with s (local node port)) refl, lent_counts w s, lent_counts w t, ap (sum_by w) (found_asked (end_name s.number (local node port)) (first_address + s.endpoints_given) s.requests))
  success_counts node (delete_at port) e =
      live_counts node (local node port) (λ e. waiting_ended e.address word.EndpInvalid ∷ endpoint_gone e.address ∷ end_announced (record { local = e.local; address = e.address; create = false }) ∷ []) (λ e. e.queue) (λ e is. deleted_counts (local node port) e is)
  success_counts node (lookup_of name) e =
      let t = changed_all s (success_changes s node (lookup_of name)) in
      let r : Request = record { serial = s.requests_given; asked = name_of name; outcome = option_map has_address (address_of s name) } in
      omega (arith, lent_counts w s, lent_counts w t, asked_counts w s.requests r, ap (sum_by w) (address_asked (address_of s name)))
  success_counts node (send_from port to priority bytes) e = omega arith
  success_counts node (receive_at port max) e = live_counts node (local node port) (λ e. best_gone e.address ∷ []) (λ e. option_to_list (best_item e)) (λ e is. best_counts (local node port) e is)
  success_counts node (request_at port max) e = go (live_at s (local node port)) refl
    where
      go : (o : Option Endpoint) → live_at s (local node port) ≡ o → held w (changed_all s (at_live o (λ e. best_gone e.address ∷ request_added (message_at e.local max) (option_map has_item (best_item e)) ∷ []))) + 0 ≡ held w s
      go None is = omega arith
      go (Some e) is =
          let u : DomainState = changed s (best_gone e.address) in
          let r : Request = record { serial = s.requests_given; asked = message_at e.local max; outcome = option_map has_item (best_item e) } in
          let t : DomainState = changed u (request_added (message_at e.local max) (option_map has_item (best_item e))) in
          omega (arith, best_counts (local node port) e is, lent_counts w u, lent_counts w t, asked_counts w s.requests r, ap (sum_by w) (item_asked (best_item e)))
  success_counts node (available_at port) e = omega arith
  success_counts node (connect_from port to kind) e = go (live_at s (local node port))
    where
      go : (o : Option Endpoint) → held w (changed_all s (at_live o (λ e. buffers_used to.domain 1 ∷ channel_set e.address (Some (new_sender s to kind)) ∷ request_added (channel_of (s.channels_given + 1)) None ∷ channel_given ∷ []))) + 0 ≡ held w s
      go None = omega arith
      go (Some e) =
          let u : DomainState = changed (changed s (buffers_used to.domain 1)) (channel_set e.address (Some (new_sender s to kind))) in
          let r : Request = record { serial = s.requests_given; asked = channel_of (s.channels_given + 1); outcome = None } in
          let t : DomainState = changed u (request_added (channel_of (s.channels_given + 1)) None) in
          omega (arith, set-holds w (changed s (buffers_used to.domain 1)) e.address (Some (new_sender s to kind)), lent_counts w u, lent_counts w t, asked_counts w s.requests r)
  success_counts node (open_at port side kind) e = end_counts (λ e c. Some (opened_end c)) (live_at s (local node port))
  success_counts node (packet_from port bytes) e = used_counts (λ c. frames_needed (packet c.number bytes)) (live_at s (local node port))
  success_counts node (lend_at port) e = go (live_at s (local node port)) refl
    where
      go : (o : Option Endpoint) → live_at s (local node port) ≡ o → held w (changed_all s (at_live o (λ e. oldest_gone e.address ∷ lending (oldest e.queue)))) + 0 ≡ held w s
      go None is = omega arith
      go (Some e) is = omega (arith, oldest_counts (local node port) e is, lending_counts w (changed s (oldest_gone e.address)) (oldest e.queue))
  success_counts node (packet_request_at port) e = go (live_at s (local node port)) refl
    where
      go : (o : Option Endpoint) → live_at s (local node port) ≡ o → held w (changed_all s (at_live o (λ e. oldest_gone e.address ∷ request_added (packet_at e.local) (option_map has_item (oldest e.queue)) ∷ []))) + 0 ≡ held w s
      go None is = omega arith
      go (Some e) is =
          let u : DomainState = changed s (oldest_gone e.address) in
          let r : Request = record { serial = s.requests_given; asked = packet_at e.local; outcome = option_map has_item (oldest e.queue) } in
          let t : DomainState = changed u (request_added (packet_at e.local) (option_map has_item (oldest e.queue))) in
          omega (arith, oldest_counts (local node port) e is, lent_counts w u, lent_counts w t, asked_counts w s.requests r, ap (sum_by w) (item_asked (oldest e.queue)))
  success_counts node (release_of place) e = omega (arith, released_counts w place s.lent, lent_counts w s, lent_counts w (changed s (packet_gone place)))
  success_counts node (scalar_from port bits value) e = used_counts (λ c. 1) (live_at s (local node port))
  success_counts node (scalar_at port bits) e = live_counts node (local node port) (λ e. oldest_gone e.address ∷ []) (λ e. option_to_list (oldest e.queue)) (λ e is. oldest_counts (local node port) e is)
  success_counts node (close_at port Sender) e = end_counts (λ e c. closed_end c) (live_at s (local node port))
  success_counts node (close_at port Receiver) e =
      let words = find-none (holds s node (close_at port Receiver)) (words_of (close_at port Receiver)) e in
      let there = end-there (closes Receiver) (live_at s (local node port)) words.1.0 in
      subst (λ o. held w (changed_all s (at_end o (closing Receiver))) + sum_by w (at_live o (λ e. e.queue)) ≡ held w s) (sym there.live)
      (subst (λ c. held w (changed_all s (at_channel c (closing Receiver there.end))) + sum_by w there.end.queue ≡ held w s) (sym there.has) (dropped_counts (local node port) there.end there.channel there.live))
  success_counts node (test_of request) e = told_counts request
  success_counts node (wait_for requests says_place) e = told_counts (first_complete s requests)
  success_counts node (cancel_of request) e =
      omega (arith, ended_counts w request s.requests, lent_counts w s, lent_counts w (changed_all s (success_changes s node (cancel_of request))), ap (sum_by w) (cancelled_holds s node request e))
  success_counts node (raw_to to bytes) e = omega arith
  success_counts node turn_alone e = omega arith

  -- what a call takes of what is held is what it gives back
  pub call_counts : (node : ℕ) (call : DomainCall) → held w (effect s node call) + sum_by w (returned s node call) ≡ held w s
  call_counts node call = go (refusal s node call) refl
    where
      go : (o : Option Refusal) → refusal s node call ≡ o → held w (changed_all s (unless_refused o [] (success_changes s node call))) + sum_by w (unless_refused o [] (success_returned s node call)) ≡ held w s
      go (Some r) is = omega arith
      go None is = success_counts node call is
