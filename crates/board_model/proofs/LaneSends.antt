-- Calls of a domain: the frames that they put use as many buffers of their lanes.
use Rattle.std.proofs.Common.{◌≡◌, ℕ, ◌+◌, ◌-◌, ◌≤◌, Bool, true, false, cond, List, [], ◌∷◌, map, length, ◌⊎◌, sym, ◌∙◌, Option, Some, None, count_by, option_map, refl, ap, inl, inr, arith, ltb-false}
use Rattle.std.specs.Prelude.{◌==◌, unwrap_or}
use Rattle.std.specs.List.{AllByRecursion}
use Rattle.std.proofs.lemmas.Bool.Decides.{eqb_tells}
use Rattle.std.specs.List.{flat_map}
use Rattle.std.proofs.lemmas.List.{append-nil, length-map}
use Rattle.mc_base.specs.Letter.{PlainLetter, msg, connect, packet, scalar}
use Rattle.mc_base.specs.Pieces.{spellings, frames_needed}
use Rattle.mc_base.specs.declared.name.EndName.{EndName}
use Rattle.mc_base.specs.declared.channel.Side.TheVariants.{Sender, Receiver}
use Rattle.mc_base.specs.declared.refusal.Refusal.{Refusal}
use Rattle.mc_base.specs.declared.refusal.Refusal.TheVariants as word
use Rattle.board_model.specs.DomainCall.{DomainCall, create_at, delete_at, lookup_of, send_from, receive_at, request_at, available_at, connect_from, open_at, packet_from, lend_at, packet_request_at, release_of, scalar_from, scalar_at, close_at, test_of, wait_for, cancel_of, raw_to, turn_alone}
use Rattle.board_model.specs.State.{DomainState, ChannelEnd, Endpoint, Peer, channel_of, message_at, packet_at, has_item, address_at, live_at, request_at_place, channel_in, peer_at, free_to}
use Rattle.board_model.specs.Choice.{oldest}
use Rattle.board_model.specs.ChannelEnds.{opened_end, closed_end}
use Rattle.board_model.specs.Answer.{first_complete, local, Post, post, put_as, puts_of, over_channel, opening_letter, closing_letter, lacks_buffers, holds, words_of, refusal, unless_refused, success_puts, puts, address_of}
use Rattle.board_model.specs.Change.{Change, endpoint_gone, best_gone, oldest_gone, channel_set, queue_dropped, request_added, request_gone, waiting_ended, end_announced, buffers_used, channel_given, changed, changed_all}
use Rattle.board_model.specs.CallChanges.{at_live, at_channel, at_end, new_sender, lending, lent_by_test, best_item, success_changes, effect, tested}
use Rattle.board_model.proofs.ListsCounts.{one_if, count-cons, find-none}
use Rattle.board_model.proofs.StateEnds.{there_is, lending-holds, tested-holds}
use Rattle.board_model.proofs.LanePeers.{Keeps, read-all, peer-changed, owed-free, free-at}

-- what holds where a send is not refused: its endpoint is named, and its lane has a buffer
pub record Sendable (s : DomainState) (node : ℕ) (call : DomainCall) : Type 0 where
  pub named : holds s node call word.PeerInvalid ≡ false
  pub room : holds s node call word.NoBuffer ≡ false

pub send_holds : (s : DomainState) (node port : ℕ) (to : EndName) (priority : ℕ) (bytes : List ℕ) → refusal s node (send_from port to priority bytes) ≡ None → Sendable s node (send_from port to priority bytes)
send_holds s node port to priority bytes e =
    let t = find-none (holds s node (send_from port to priority bytes)) (words_of (send_from port to priority bytes)) e in
    record { named = t.1.1.0; room = t.1.1.1.1.0 }

abbrev pub goes_to : ℕ → ℕ × List ℕ → Bool
goes_to n p = p.0 == n

-- frames to a peer that has the room use as many buffers of its lane
abbrev frees : ℕ → ℕ → ℕ → Option Peer → ℕ
frees m n count o = unwrap_or (option_map (λ p. p.free) (option_map (λ (p : Peer). cond (m == n) (record p { free = p.free - count }) p) o)) 0

abbrev free_in : Option Peer → ℕ
free_in o = unwrap_or (option_map (λ (p : Peer). p.free) o) 0

used_frees : (s : DomainState) (m n count : ℕ) → count ≤ free_to s m → free_to (changed s (buffers_used m count)) n + cond (m == n) count 0 ≡ free_to s n
used_frees s m n count room = omega (arith, free-at (changed s (buffers_used m count)) n, free-at s n, ap free_in (peer-changed s (buffers_used m count) n), go (eqb_tells m n))
  where
    own : (m == n) ≡ true → (o : Option Peer) → count ≤ free_in o → frees m n count o + cond (m == n) count 0 ≡ free_in o
    own same None few = omega (arith, few, ap (λ c. cond c count 0) same)
    own same (Some p) few = omega (arith, few, ap (λ c. (cond c (record p { free = p.free - count }) p).free) same, ap (λ c. cond c count 0) same)

    other : (m == n) ≡ false → (o : Option Peer) → frees m n count o + cond (m == n) count 0 ≡ free_in o
    other differs None = ap (λ c. 0 + cond c count 0) differs
    other differs (Some p) = omega (arith, ap (λ c. (cond c (record p { free = p.free - count }) p).free) differs, ap (λ c. cond c count 0) differs)

    go : ((m == n) ≡ true) × (m ≡ n) ⊎ ((m == n) ≡ false) × (m ≡ n → ⊥) → frees m n count (peer_at s n) + cond (m == n) count 0 ≡ free_in (peer_at s n)
    go (inl same) = own same.0 (peer_at s n) (omega (arith, room, ap (free_to s) same.1, free-at s n))
    go (inr differ) = other differ.0 (peer_at s n)

-- the frames of a post
abbrev counted : ℕ → List (ℕ × List ℕ) → ℕ
counted n ps = count_by (goes_to n) ps

post_counts : (n : ℕ) (x : Post) (ps : List (List ℕ)) → counted n (map (put_as x) ps) ≡ cond (x.peer == n) (length ps) 0
post_counts n x [] = none (x.peer == n)
  where
    none : (b : Bool) → ◌≡◌ {A = ℕ} 0 (cond b 0 0)
    none true = refl
    none false = refl
post_counts n x (p ∷ ps) = omega (arith, count-cons (goes_to n) (put_as x p) (map (put_as x) ps), post_counts n x ps, more (x.peer == n))
  where
    more : (b : Bool) → cond b (length (p ∷ ps)) 0 ≡ one_if b + cond b (length ps) 0
    more true = omega arith
    more false = refl

post_room : (s : DomainState) (x : Post) (ps : List (List ℕ)) → lacks_buffers s (map (put_as x) ps) ≡ false → length ps ≤ free_to s x.peer
post_room s x [] room = omega arith
post_room s x (p ∷ ps) room = omega (arith, ltb-false (free_to s x.peer) (length (map (put_as x) (p ∷ ps))) room, length-map (p ∷ ps) (put_as x))

-- they use as many buffers
put_frees : (s : DomainState) (n : ℕ) (x : Post) → lacks_buffers s (flat_map puts_of (x ∷ [])) ≡ false → free_to (changed s (buffers_used x.peer (frames_needed x.letter))) n + counted n (flat_map puts_of (x ∷ [])) ≡ free_to s n
put_frees s n x room =
    let all : flat_map puts_of (x ∷ []) ≡ puts_of x = append-nil (puts_of x) in
    omega (
      arith,
      used_frees s x.peer n (frames_needed x.letter) (post_room s x (spellings x.letter) (ap (lacks_buffers s) (sym all) ∙ room)),
      ap (counted n) all,
      post_counts n x (spellings x.letter),
    )

-- changes that keep what is free at a peer
kept_frees : (s : DomainState) (n : ℕ) (cs : List Change) → AllByRecursion (Keeps (λ p. p.free) s.number n) cs → free_to (changed_all s cs) n + 0 ≡ free_to s n
kept_frees s n cs keep = omega (arith, free-at (changed_all s cs) n, free-at s n, ap (λ o. unwrap_or o 0) (read-all (λ p. p.free) s cs n keep))

live_frees : (s : DomainState) (n : ℕ) (o : Option Endpoint) (f : Endpoint → List Change) → ((e : Endpoint) → AllByRecursion (Keeps (λ p. p.free) s.number n) (f e)) → free_to (changed_all s (at_live o f)) n + 0 ≡ free_to s n
live_frees s n None f keep = kept_frees s n [] tt
live_frees s n (Some e) f keep = kept_frees s n (f e) (keep e)

-- a frame over the channel of an endpoint, where it has one
over_frees : (s : DomainState) (n : ℕ) (f : Endpoint → ChannelEnd → List Change) (letter : ℕ → PlainLetter) → ((e : Endpoint) (c : ChannelEnd) → AllByRecursion (Keeps (λ p. p.free) s.number n) (f e c)) → (o : Option Endpoint) →
    lacks_buffers s (flat_map puts_of (over_channel o (channel_in o) letter)) ≡ false → free_to (changed_all s (at_end o (λ e c. buffers_used c.peer (frames_needed (letter c.number)) ∷ f e c))) n + counted n (flat_map puts_of (over_channel o (channel_in o) letter)) ≡ free_to s n
over_frees s n f letter keep None room = omega arith
over_frees s n f letter keep (Some e) room = go e.channel room
  where
    go : (c : Option ChannelEnd) → lacks_buffers s (flat_map puts_of (over_channel (Some e) c letter)) ≡ false → free_to (changed_all s (at_channel c (λ d. buffers_used d.peer (frames_needed (letter d.number)) ∷ f e d))) n + counted n (flat_map puts_of (over_channel (Some e) c letter)) ≡ free_to s n
    go None room = omega arith
    go (Some c) room =
        omega (arith, kept_frees (changed s (buffers_used c.peer (frames_needed (letter c.number)))) n (f e c) (keep e c), put_frees s n (post c.peer e.address c.peer_address (letter c.number)) room)

success_frees : (s : DomainState) (n node : ℕ) (call : DomainCall) → refusal s node call ≡ None → free_to (changed_all s (success_changes s node call)) n + count_by (goes_to n) (success_puts s node call) ≡ free_to s n
success_frees s n node (create_at port) e =
    kept_frees s n (success_changes s node (create_at port)) ((λ p. refl), ((λ p. owed-free s.number (record { local = local node port; address = 1024 + s.endpoints_given; create = true }) p), ((λ p. refl), tt)))
success_frees s n node (delete_at port) e =
    live_frees s n (live_at s (local node port)) (λ e. waiting_ended e.address word.EndpInvalid ∷ endpoint_gone e.address ∷ end_announced (record { local = e.local; address = e.address; create = false }) ∷ [])
    (λ e. ((λ p. refl), ((λ p. refl), ((λ p. owed-free s.number (record { local = e.local; address = e.address; create = false }) p), tt))))
success_frees s n node (lookup_of name) e = omega arith
success_frees s n node (send_from port to priority bytes) e =
    put_frees s n (post to.domain (unwrap_or (address_at s (local node port)) 0) (unwrap_or (address_of s to) 0) (msg priority bytes)) (send_holds s node port to priority bytes e).room
success_frees s n node (receive_at port max) e = live_frees s n (live_at s (local node port)) (λ e. best_gone e.address ∷ []) (λ e. ((λ p. refl), tt))
success_frees s n node (request_at port max) e =
    live_frees s n (live_at s (local node port)) (λ e. best_gone e.address ∷ request_added (message_at e.local max) (option_map has_item (best_item e)) ∷ []) (λ e. ((λ p. refl), ((λ p. refl), tt)))
success_frees s n node (available_at port) e = omega arith
success_frees s n node (connect_from port to kind) e =
    let words = find-none (holds s node (connect_from port to kind)) (words_of (connect_from port to kind)) e in
    let there = there_is s (local node port) words.0 in
    let new : List Change = channel_set there.0.address (Some (new_sender s to kind)) ∷ request_added (channel_of (s.channels_given + 1)) None ∷ channel_given ∷ [] in
    let first : Post = post to.domain (unwrap_or (address_at s (local node port)) 0) (unwrap_or (address_of s to) 0) (connect (s.channels_given + 1) kind) in
    omega (
      arith,
      ap (λ o. free_to (changed_all s (at_live o (λ e. buffers_used to.domain 1 ∷ channel_set e.address (Some (new_sender s to kind)) ∷ request_added (channel_of (s.channels_given + 1)) None ∷ channel_given ∷ []))) n) there.1,
      kept_frees (changed s (buffers_used to.domain 1)) n new ((λ p. refl), ((λ p. refl), ((λ p. refl), tt))),
      put_frees s n first words.1.1.1.1.1.1.0,
    )
success_frees s n node (open_at port Sender kind) e =
    let words = find-none (holds s node (open_at port Sender kind)) (words_of (open_at port Sender kind)) e in
    over_frees s n (λ e c. channel_set e.address (Some (opened_end c)) ∷ []) (opening_letter Sender) (λ e c. ((λ p. refl), tt)) (live_at s (local node port)) words.1.1.1.1.1.1.0
success_frees s n node (open_at port Receiver kind) e =
    let words = find-none (holds s node (open_at port Receiver kind)) (words_of (open_at port Receiver kind)) e in
    over_frees s n (λ e c. channel_set e.address (Some (opened_end c)) ∷ []) (opening_letter Receiver) (λ e c. ((λ p. refl), tt)) (live_at s (local node port)) words.1.1.1.1.1.1.0
success_frees s n node (packet_from port bytes) e =
    let words = find-none (holds s node (packet_from port bytes)) (words_of (packet_from port bytes)) e in
    over_frees s n (λ e c. []) (λ number. packet number bytes) (λ e c. tt) (live_at s (local node port)) words.1.1.1.1.1.1.1.0
success_frees s n node (lend_at port) e = live_frees s n (live_at s (local node port)) (λ e. oldest_gone e.address ∷ lending (oldest e.queue)) (λ e. ((λ p. refl), lending-holds (Keeps (λ p. p.free) s.number n) (λ i p. refl) (oldest e.queue)))
success_frees s n node (packet_request_at port) e =
    live_frees s n (live_at s (local node port)) (λ e. oldest_gone e.address ∷ request_added (packet_at e.local) (option_map has_item (oldest e.queue)) ∷ []) (λ e. ((λ p. refl), ((λ p. refl), tt)))
success_frees s n node (release_of place) e = omega arith
success_frees s n node (scalar_from port bits value) e =
    let words = find-none (holds s node (scalar_from port bits value)) (words_of (scalar_from port bits value)) e in
    over_frees s n (λ e c. []) (λ number. scalar number bits value) (λ e c. tt) (live_at s (local node port)) words.1.1.1.1.1.1.0
success_frees s n node (scalar_at port bits) e = live_frees s n (live_at s (local node port)) (λ e. oldest_gone e.address ∷ []) (λ e. ((λ p. refl), tt))
success_frees s n node (close_at port Sender) e =
    let words = find-none (holds s node (close_at port Sender)) (words_of (close_at port Sender)) e in
    over_frees s n (λ e c. channel_set e.address (closed_end c) ∷ []) (closing_letter Sender) (λ e c. ((λ p. refl), tt)) (live_at s (local node port)) words.1.1.1.1.0
success_frees s n node (close_at port Receiver) e =
    let words = find-none (holds s node (close_at port Receiver)) (words_of (close_at port Receiver)) e in
    over_frees s n (λ e c. waiting_ended e.address word.ChanClosed ∷ queue_dropped e.address (closed_end c) ∷ []) (closing_letter Receiver) (λ e c. ((λ p. refl), ((λ p. refl), tt))) (live_at s (local node port)) words.1.1.1.1.0
success_frees s n node (test_of request) e = kept_frees s n (request_gone request ∷ lent_by_test (request_at_place s request)) ((λ p. refl), tested-holds (Keeps (λ p. p.free) s.number n) (λ i p. refl) (request_at_place s request))
success_frees s n node (wait_for requests says_place) e = kept_frees s n (tested s (first_complete s requests)) ((λ p. refl), tested-holds (Keeps (λ p. p.free) s.number n) (λ i p. refl) (request_at_place s (first_complete s requests)))
success_frees s n node (cancel_of request) e = omega arith
success_frees s n node (raw_to to bytes) e =
    let words = find-none (holds s node (raw_to to bytes)) (words_of (raw_to to bytes)) e in
    omega (arith, used_frees s to n 1 (ltb-false (free_to s to) 1 words.1.1.0), count-cons (goes_to n) (to, bytes) [])
success_frees s n node turn_alone e = omega arith

-- the frames that a call puts to a peer use as many buffers of the lane to it
pub call_frees : (s : DomainState) (n node : ℕ) (call : DomainCall) → free_to (effect s node call) n + count_by (goes_to n) (puts s node call) ≡ free_to s n
call_frees s n node call = go (refusal s node call) refl
  where
    go : (o : Option Refusal) → refusal s node call ≡ o → free_to (changed_all s (unless_refused o [] (success_changes s node call))) n + count_by (goes_to n) (unless_refused o [] (success_puts s node call)) ≡ free_to s n
    go (Some r) is = omega arith
    go None is = success_frees s n node call is
