-- The two lemmas of each step: it keeps what the parts keep, and it is this change of the state.
use Rattle.std.proofs.Common.{◌≡◌, ℕ, zero, suc, ◌<◌, drop, Bool, true, false, cond, List, [], ◌∷◌, map, length, take, Option, Some, None, refl, sym, ap, ◌∙◌, subst, arith}
use Rattle.std.specs.Prelude.{slice_get, option_map, position, unwrap_or, ◌==◌, ◌&&◌}
use Rattle.lane_end.specs.SendMoves.{Sent}
use Rattle.domain_parts.specs.LaneSeen.{LaneSeen, after_moves}
use Rattle.domain_parts.specs.declared.peer.Peer.{Peer}
use Rattle.domain_parts.specs.LaneMoves.{LaneMove, sender}
use Rattle.domain_parts.specs.Peers.{state_in}
use Rattle.domain_parts.proofs.PeerPlaces.{no-peer-in, peer-at}
use Rattle.domain_parts.proofs.Sending.{outline, same-sound, state-sent}
use Rattle.mc_base.specs.declared.name.Local.{Local}
use Rattle.board_model.specs.State as state
use Rattle.board_model.specs.State.{free_to, is_at, place_at, queue_at, queue_in}
use Rattle.board_model.specs.DomainCall.{receive_at}
use Rattle.board_model.specs.Journal.{gives}
use Rattle.board_model.specs.Answer.{given, success}
use Rattle.buffer_book.specs.Book.{Book, IsQueued}
use Rattle.domain_parts.specs.InBook.{content_in, endpoint_in, endpoints_in, frames_at, item_in, whole_at}
use Rattle.board_model.specs.Choice.{best, oldest}
use Rattle.mc_base.specs.declared.request.Slot.{Slot}
use Rattle.board_model.specs.Lists.{changed_at}
use Rattle.domain_parts.specs.declared.endpoints.Endpoint.{Endpoint}
use Rattle.domain_parts.proofs.Deleting.{gone-sound, oldest-out, oldest-queued, oldest-sound}
use Rattle.domain_parts.specs.PlacedCalls.{best_queued, with_received, with_used}
use Rattle.message_queue.specs.Queue.{Waiting}
use Rattle.domain_parts.specs.GivingBack.{AreOutAt, GivesBack}
use Rattle.domain_parts.specs.Records.{slots_at, waiting_in, with_best_taken_at, Records, with_oldest_taken, with_oldest_taken_at, without_record_at}
use Rattle.endpoint_table.specs.declared.record.Record.{Record}
use Rattle.domain_parts.specs.Tied.{live_record}
use Rattle.domain_parts.proofs.GivingLemmas.{oldest-same}
use Rattle.domain_parts.proofs.Tables.{position-map}
use Rattle.domain_parts.proofs.Tying.{place-is}
use Rattle.domain_parts.proofs.Waits.{queue-there}
use Rattle.std.specs.Prelude.{option_and_then}
use Rattle.board_model.proofs.ListsCounts.{position-tells}
use Rattle.std.proofs.lemmas.Option.{slice_get_within}
use Rattle.std.proofs.lemmas.List.{length-map}
use Rattle.endpoint_table.specs.Table.{deleted}
use Rattle.domain_parts.proofs.Removing.{delete-tied}
use Rattle.domain_parts.specs.CallSteps.{best_slot, call_steps, dropped_at, drops, if_some}
use Rattle.domain_parts.specs.Parts.{Parts, Sound, plain, state_of}
use Rattle.domain_parts.specs.Steps.{at_peer, best_dropped, done, done_all, endpoint_gone, frame_put, moved_peer, oldest_dropped, requests_after}
use Rattle.domain_parts.proofs.Queuing.{received-more}
use Rattle.domain_parts.proofs.Receiving.{best-is, best-out, best-taken, given-state, taken-sound}
use Rattle.domain_parts.proofs.Stepping.{Any, gives-seen, quiet-peers, set-is-map}

module _ (p : Parts) (sound : Sound p) (i : ℕ) (w : Waiting) (is : best (λ (x : Waiting). x.priority) (waiting_in (slice_get p.records.endpoints i)) ≡ Some w) where
  abbrev fs : List ℕ
  fs = frames_at p.book w.slot

  pub best_dropped-out : AreOutAt plain w.slot.peer fs p.peers
  best_dropped-out = best-out plain p.book p.records p.requests p.table p.peers sound i w is

  back : GivesBack Any plain w.slot.peer fs p.peers (done (best_dropped i w.slot fs) p).peers
  back = gives-seen w.slot.peer fs p.peers sound.peers.rising best_dropped-out

  pub best_dropped-keeps : Sound (done (best_dropped i w.slot fs) p)
  best_dropped-keeps = taken-sound plain p.book p.records p.requests p.table p.peers sound i w is Any _ back

  pub best_dropped-is : (at : Local) → Some i ≡ place_at (state_of p) at → state_of (done (best_dropped i w.slot fs) p) ≡ with_received (state_of p) at
  best_dropped-is at there =
      given-state Any (λ l. tt) plain p.book p.records (with_best_taken_at p.records i) p.requests p.requests p.table w.slot p.peers _ back (received-more p.records p.requests p.book i w is) sound.places refl refl refl refl
      ∙ ap (λ (es : List state.Endpoint). record (state_of p) { endpoints = es }) (best-taken plain p.book p.records p.requests p.table p.peers sound i w is at there)

  -- the steps of the call, what it answers, and that it is not refused
  module _ (at : Local) (there : place_at (state_of p) at ≡ Some i) where
    pub best_dropped-steps : (max : ℕ) → call_steps p at.node (receive_at at.port max) None ≡ best_dropped i w.slot fs ∷ []
    best_dropped-steps max =
        ap (λ (o : Option ℕ). if_some o (λ j. if_some (best_slot p j) (λ s. best_dropped j s (frames_at p.book s) ∷ []))) there
        ∙ ap (λ (o : Option Waiting). if_some (option_map (λ (x : Waiting). x.slot) o) (λ s. best_dropped i s (frames_at p.book s) ∷ [])) is

    best-there : best_queued (state_of p) at ≡ Some (item_in p.book w)
    best-there = best-is plain p.book p.records p.requests p.table p.peers sound i w is at (sym there)

    pub best_dropped-answer : (max size : ℕ) (out : List ℕ) → size ≡ length (content_in (whole_at p.book w.slot)) → out ≡ take max (content_in (whole_at p.book w.slot)) → gives size out ≡ success (state_of p) at.node (receive_at at.port max)
    best_dropped-answer max size out long cut =
        let same : gives size out ≡ gives (length (content_in (whole_at p.book w.slot))) (take max (content_in (whole_at p.book w.slot))) = cc in
        same ∙ ap (λ (o : Option state.Item). given max o) (sym best-there)

-- ---- a frame is put

module _ (p : Parts) (n : ℕ) (frame : List ℕ) where
  abbrev put : List LaneMove
  put = sender (Sent frame) ∷ []

  same-outline : (x : Peer LaneSeen) (b : Bool) → outline plain (record x { ends = after_moves (cond b put []) x.ends }) ≡ outline plain x
  same-outline x true = refl
  same-outline x false = refl

  same-outlines : (ps : List (Peer LaneSeen)) → map (outline plain) (map (moved_peer (at_peer n put)) ps) ≡ map (outline plain) ps
  same-outlines [] = refl
  same-outlines (x ∷ ps) = let here = same-outline x (n == x.number) in let rest = same-outlines ps in cc

  pub frame_put-keeps : Sound p → Sound (done (frame_put n frame) p)
  frame_put-keeps sound = same-sound plain plain p.book p.records p.requests p.table p.peers _ (same-outlines p.peers) sound

  pub frame_put-is : Sound p → (i : ℕ) → Some i ≡ position (λ (x : Peer LaneSeen). x.number == n) p.peers → state_of (done (frame_put n frame) p) ≡ with_used (state_of p) n
  frame_put-is sound i there =
      let at = peer-at p.peers n i there in
      ap (λ (ps : List (Peer LaneSeen)). state_in plain p.book p.records p.requests p.table ps) (sym (set-is-map n put p.peers i at.0 sound.peers.rising at.1 at.2))
      ∙ state-sent plain p.book p.records p.requests p.table p.peers i at.0 (after_moves put at.0.ends) n there at.1 refl refl refl

pub not-zero : (n : ℕ) → (n ≡ 0 → ⊥) → 0 < n
not-zero zero some = absurd (some refl)
not-zero (suc n) some = omega arith

-- a lane of which a buffer is free is there
pub free-place : (p : Parts) (n : ℕ) → 0 < free_to (state_of p) n → (i : ℕ) × (Some i ≡ position (λ (x : Peer LaneSeen). x.number == n) p.peers)
free-place p n free = by (position (λ (x : Peer LaneSeen). x.number == n) p.peers) refl
  where
    by : (o : Option ℕ) → o ≡ position (λ (x : Peer LaneSeen). x.number == n) p.peers → (i : ℕ) × (Some i ≡ position (λ (x : Peer LaneSeen). x.number == n) p.peers)
    by None e =
        let none = ap (λ (o : Option state.Peer). unwrap_or (option_map (λ (x : state.Peer). x.free) o) 0) (no-peer-in plain p.book p.records p.requests p.table p.peers n e) in
        absurd (omega (arith, none, free))
    by (Some i) e = (i, e)

-- ---- the oldest message at a place is dropped

pub waits-within : (es : List Endpoint) (i : ℕ) → 0 < length (map (λ (w : Waiting). w.slot) (waiting_in (slice_get es i))) → i < length es
waits-within [] i lt = absurd (omega (arith, lt))
waits-within (e ∷ es) zero lt = omega arith
waits-within (e ∷ es) (suc i) lt = let k = waits-within es i lt in omega (arith, k)

oldest-left : (i : ℕ) (es : List Endpoint) (s : Slot) → Some s ≡ option_map (λ (w : Waiting). w.slot) (oldest (waiting_in (slice_get es i)))
    → map (λ (w : Waiting). w.slot) (waiting_in (slice_get es i)) ≡ s ∷ map (λ (w : Waiting). w.slot) (waiting_in (slice_get (changed_at with_oldest_taken i es) i))
oldest-left i [] s first = absurd cc
oldest-left zero (e ∷ es) s first = go e.queue.waiting first
  where
    go : (ws : List Waiting) → Some s ≡ option_map (λ (w : Waiting). w.slot) (oldest ws) → map (λ (w : Waiting). w.slot) ws ≡ s ∷ map (λ (w : Waiting). w.slot) (drop 1 ws)
    go [] e = absurd cc
    go (w ∷ ws) e = let same : s ≡ w.slot = cc in cc
oldest-left (suc i) (e ∷ es) s first = oldest-left i es s first

-- it is the first of its slots
pub first-there : (p : Parts) (i : ℕ) (s : Slot) (ss : List Slot) → slots_at p.records i ≡ s ∷ ss → Some s ≡ option_map (λ (w : Waiting). w.slot) (oldest (waiting_in (slice_get p.records.endpoints i)))
first-there p i s ss = go (waiting_in (slice_get p.records.endpoints i))
  where
    go : (ws : List Waiting) → map (λ (w : Waiting). w.slot) ws ≡ s ∷ ss → Some s ≡ option_map (λ (w : Waiting). w.slot) (oldest ws)
    go [] e = absurd cc
    go (w ∷ ws) e = let same : w.slot ≡ s = cc in ap (λ (x : Slot). Some x) (sym same)

module _ (p : Parts) (sound : Sound p) (i : ℕ) (s : Slot) (first : Some s ≡ option_map (λ (w : Waiting). w.slot) (oldest (waiting_in (slice_get p.records.endpoints i)))) where
  pub oldest_dropped-queued : IsQueued p.book s
  oldest_dropped-queued = oldest-queued plain p.book p.records p.requests p.table p.peers i s sound first

  abbrev frames : List ℕ
  frames = frames_at p.book s

  pub oldest_dropped-out : AreOutAt plain s.peer frames p.peers
  oldest_dropped-out = oldest-out plain p.book p.records p.requests p.table p.peers i s sound first

  pub oldest_dropped-keeps : Sound (done (oldest_dropped i s frames) p)
  oldest_dropped-keeps = oldest-sound plain p.book p.records p.requests p.table p.peers i s sound first Any _ (gives-seen s.peer frames p.peers sound.peers.rising oldest_dropped-out)

  pub oldest_dropped-left : slots_at p.records i ≡ s ∷ slots_at (done (oldest_dropped i s frames) p).records i
  oldest_dropped-left = oldest-left i p.records.endpoints s first

-- ---- an endpoint is gone, at which nothing waits

pub no-slots : (ws : List Waiting) → map (λ (w : Waiting). w.slot) ws ≡ [] → ws ≡ []
no-slots [] e = refl
no-slots (w ∷ ws) e = absurd cc

pub endpoint_gone-keeps : (p : Parts) → Sound p → (i : ℕ) (at : Local) → place_at (state_of p) at ≡ Some i → slots_at p.records i ≡ [] → Sound (done (endpoint_gone i at) p)
endpoint_gone-keeps p sound i at there empty =
    let p' = record p { records = without_record_at p.records i; requests = requests_after (endpoint_gone i at) p.requests; table = deleted p.table at } in
    let tied = delete-tied plain p.book p.records p.requests p.table p.peers at i sound there _ _ refl refl in
    subst (λ (ps : List (Peer LaneSeen)). Sound (record p' { peers = ps })) (sym (quiet-peers p.peers))
    (gone-sound plain p.book p.records p.requests p.table (deleted p.table at) p.peers i at (no-slots (waiting_in (slice_get p.records.endpoints i)) empty) sound tied)

-- dropping leaves the names
abbrev names_it : Local → Record → Bool
names_it at x = x.local.node == at.node && x.local.port == at.port

same-places : (b b' : Book) (at : Local) (i : ℕ) (r : Records) → position (is_at at) (endpoints_in b' (with_oldest_taken_at r i).endpoints) ≡ position (is_at at) (endpoints_in b r.endpoints)
same-places b b' at i r =
    place-is b' (with_oldest_taken_at r i).endpoints at
    ∙ position-map live_record (names_it at) (with_oldest_taken_at r i).endpoints
    ∙ ap (position (names_it at)) (oldest-same r i).live
    ∙ sym (position-map live_record (names_it at) r.endpoints)
    ∙ sym (place-is b r.endpoints at)

pub drops-place : (b : Book) (at : Local) (i : ℕ) (ss : List Slot) (p : Parts) → place_at (state_of (done_all (drops b i ss) p)) at ≡ place_at (state_of p) at
drops-place b at i [] p = refl
drops-place b at i (s ∷ ss) p = drops-place b at i ss (done (dropped_at b i s) p) ∙ same-places p.book (done (dropped_at b i s) p).book at i p.records

pub place-within : (p : Parts) (at : Local) (i : ℕ) → place_at (state_of p) at ≡ Some i → i < length p.records.endpoints
place-within p at i there =
    let t = position-tells (is_at at) (endpoints_in p.book p.records.endpoints) i there in
    subst (λ (n : ℕ). i < n) (length-map p.records.endpoints (endpoint_in p.book)) (slice_get_within (endpoints_in p.book p.records.endpoints) i t.0 t.1)

pub queue-long : (p : Parts) (at : Local) (i : ℕ) → place_at (state_of p) at ≡ Some i → length (slots_at p.records i) ≡ length (queue_at (state_of p) at)
queue-long p at i there =
    let ws = waiting_in (slice_get p.records.endpoints i) in
    length-map ws (λ (w : Waiting). w.slot) ∙ sym (length-map ws (item_in p.book))
    ∙ ap length (sym (ap (λ (o : Option ℕ). queue_in (option_and_then (λ k. slice_get (state_of p).endpoints k) o)) there ∙ queue-there p.book p.records.endpoints i))
