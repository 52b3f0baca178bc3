-- The frames of one post, put one after the other: the state after them, the moves at the ends, and what a call means that puts them.
use Rattle.std.proofs.Common.{◌≡◌, ℕ, ◌+◌, ◌-◌, ◌≤◌, Bool, true, false, cond, List, [], ◌∷◌, ◌++◌, length, map, Option, Some, None, refl, sym, ap, ◌∙◌, arith, subst, eq-eqb, eqb-true, ltb-false}
use Rattle.std.specs.Prelude.{Err, IfErr, Ok, OnErr, OnOk, Result, filter, is_err, find, option_map, position, unwrap_or, nat_lt, ◌==◌}
use Rattle.std.proofs.lemmas.List.{append-nil, length-map}
use Rattle.mc_base.specs.Frame.{made}
use Rattle.mc_base.specs.Pieces.{frames_needed, spellings}
use Rattle.mc_base.specs.declared.refusal.Refusal.{Refusal}
use Rattle.mc_base.specs.declared.refusal.Refusal.TheVariants.{NoBuffer}
use Rattle.endpoint_table.specs.Table as endpoint_table
use Rattle.lane_end.specs.SendMoves.{Sent}
use Rattle.board_model.specs.Answer.{Post, lacks_buffers, passes_lane, put_as, puts as puts_made, puts_of, refusal, success, success_puts}
use Rattle.board_model.specs.CallChanges.{success_changes, success_returned}
use Rattle.board_model.specs.Change.{buffers_used, changed, changed_all}
use Rattle.board_model.specs.DomainCall.{DomainCall}
use Rattle.board_model.specs.Journal.{Line, agrees, noted_all, refuses}
use Rattle.board_model.specs.Labels.{success_packet}
use Rattle.board_model.specs.Lists as lists
use Rattle.board_model.specs.Serial.{put_entry}
use Rattle.board_model.specs.State as state
use Rattle.board_model.specs.State.{DomainState, Item, free_to, is_numbered, size_to}
use Rattle.board_model.proofs.MessageLists.{get-position}
use Rattle.board_model.proofs.PartLetters.{some-frames}
use Rattle.domain_parts.specs.AllMoved.{frames_to, moves_at}
use Rattle.domain_parts.specs.Calls.{sent, success_ends, success_releases}
use Rattle.domain_parts.specs.CallSteps.{Acts, Means, call_steps, putting_all}
use Rattle.domain_parts.specs.LaneMoves.{LaneMove, sender}
use Rattle.domain_parts.specs.LaneSeen.{LaneSeen, after_moves}
use Rattle.domain_parts.specs.Parts.{Holding, Parts, Sound, plain, state_of, parts_read}
use Rattle.domain_parts.specs.Peers.{peer_in, peers_in}
use Rattle.domain_parts.specs.Steps.{Did, Step, all_moves, at_peer, done, done_all, frame_put, moved_peer}
use Rattle.domain_parts.specs.VisitMoves.{putting}
use Rattle.domain_parts.specs.declared.peer.Peer.{Peer}
use Rattle.domain_parts.proofs.Calling.{nothing-noted, puts-done}
use Rattle.domain_parts.proofs.CallsAgree.{raw-agrees}
use Rattle.domain_parts.proofs.Ending.{ids_in}
use Rattle.domain_parts.proofs.Stepping.{acts-done, acts-refused, moves-append}
use Rattle.domain_parts.proofs.Steps.{frame_put-is, frame_put-keeps, free-place}
use Rattle.domain_parts.proofs.Tables.{position-map}
use Rattle.domain_parts.specs.Table.{PartRead}

-- ---- the state after them

-- so many buffers of the lane to a peer are used
abbrev used : ℕ → ℕ → List state.Peer → List state.Peer
used d n ps = lists.changed_first (is_numbered d) (λ x. record x { free = x.free - n }) ps

twice-used : (d m n : ℕ) (ps : List state.Peer) → used d n (used d m ps) ≡ used d (m + n) ps
twice-used d m n [] = refl
twice-used d m n (x ∷ ps) = go (x.number == d) refl (twice-used d m n ps)
  where
    go : (b : Bool) → (x.number == d) ≡ b → used d n (used d m ps) ≡ used d (m + n) ps → used d n (cond b (record x { free = x.free - m } ∷ ps) (x ∷ used d m ps)) ≡ cond b (record x { free = x.free - (m + n) } ∷ ps) (x ∷ used d (m + n) ps)
    go true e rest =
        let less : (x.free - m) - n ≡ x.free - (m + n) = omega arith in
        ap (λ (b : Bool). cond b (record x { free = (x.free - m) - n } ∷ ps) (record x { free = x.free - m } ∷ used d n ps)) e
        ∙ ap (λ (k : ℕ). record x { free = k } ∷ ps) less
    go false e rest =
        ap (λ (b : Bool). cond b (record x { free = x.free - n } ∷ used d m ps) (x ∷ used d n (used d m ps))) e
        ∙ ap (λ (qs : List state.Peer). x ∷ qs) rest

used-more : (s : DomainState) (d m n : ℕ) → changed (changed s (buffers_used d m)) (buffers_used d n) ≡ changed s (buffers_used d (m + n))
used-more s d m n = ap (λ (ps : List state.Peer). record s { peers = ps }) (twice-used d m n s.peers)

same-used : (d : ℕ) (ps : List state.Peer) → used d 0 ps ≡ ps
same-used d [] = refl
same-used d (x ∷ ps) = go (x.number == d) (same-used d ps)
  where
    go : (b : Bool) → used d 0 ps ≡ ps → cond b (record x { free = x.free - 0 } ∷ ps) (x ∷ used d 0 ps) ≡ x ∷ ps
    go true rest = let same : x.free - 0 ≡ x.free = omega arith in ap (λ (k : ℕ). record x { free = k } ∷ ps) same
    go false rest = ap (λ (qs : List state.Peer). x ∷ qs) rest

none-used : (s : DomainState) (d : ℕ) → changed s (buffers_used d 0) ≡ s
none-used s d = ap (λ (ps : List state.Peer). record s { peers = ps }) (same-used d s.peers)

module _ (x : Post) where
  pub posted-state : (p : Parts) (fs : List (List ℕ)) (j : ℕ) → Sound p → Some j ≡ position (λ (y : Peer LaneSeen). y.number == x.peer) p.peers → state_of (done_all (putting_all (map (put_as x) fs)) p) ≡ changed (state_of p) (buffers_used x.peer (length fs))
  posted-state p [] j sound there = sym (none-used (state_of p) x.peer)
  posted-state p (f ∷ fs) j sound there =
      let frame = made x.source x.destination f in
      let moves = at_peer x.peer (sender (Sent frame) ∷ []) in
      let still : Some j ≡ position (λ (y : Peer LaneSeen). y.number == x.peer) (map (moved_peer moves) p.peers) = there ∙ position-map (moved_peer moves) (λ y. y.number == x.peer) p.peers in
      let more : 1 + length fs ≡ length (f ∷ fs) = omega arith in
      posted-state (done (frame_put x.peer frame) p) fs j (frame_put-keeps p x.peer frame sound) still
      ∙ ap (λ (s : DomainState). changed s (buffers_used x.peer (length fs))) (frame_put-is p x.peer frame sound j there ∙ raw-agrees (state_of p) 0 x.peer [])
      ∙ used-more (state_of p) x.peer 1 (length fs)
      ∙ ap (λ (n : ℕ). changed (state_of p) (buffers_used x.peer n)) more

-- ---- the moves at the ends

pub puts-moves : (qs : List (ℕ × List ℕ)) (n : ℕ) → all_moves (putting_all qs) n ≡ putting (frames_to n qs)
puts-moves [] n = refl
puts-moves (q ∷ qs) n = moves-append (frame_put q.0 q.1 ∷ []) (putting_all qs) n ∙ go (q.0 == n) (puts-moves qs n)
  where
    go : (b : Bool) → all_moves (putting_all qs) n ≡ putting (frames_to n qs) → cond b (sender (Sent q.1) ∷ []) [] ++ all_moves (putting_all qs) n ≡ putting (map (λ (r : ℕ × List ℕ). r.1) (cond b (q ∷ filter (λ (r : ℕ × List ℕ). r.0 == n) qs) (filter (λ (r : ℕ × List ℕ). r.0 == n) qs)))
    go true rest = ap (λ (ms : List LaneMove). sender (Sent q.1) ∷ ms) rest
    go false rest = rest

-- ---- the buffers that are left

abbrev free_in : Option state.Peer → ℕ
free_in o = unwrap_or (option_map (λ (y : state.Peer). y.free) o) 0

found-free : (s : DomainState) (d : ℕ) → free_to s d ≡ free_in (find (is_numbered d) s.peers)
found-free s d = ap free_in (get-position (is_numbered d) s.peers)

abbrev putting_one : List ℕ → List LaneMove
putting_one f = sender (Sent f) ∷ []

put-found : (os : List PartRead) (t : endpoint_table.Table) (d : ℕ) (f : List ℕ) (ps : List (Peer LaneSeen)) → free_in (find (is_numbered d) (peers_in plain os t (map (moved_peer (at_peer d (putting_one f))) ps))) ≡ free_in (find (is_numbered d) (peers_in plain os t ps)) - 1
put-found os t d f [] = refl
put-found os t d f (y ∷ ps) = go (y.number == d) refl (put-found os t d f ps)
  where
    go : (b : Bool) → (y.number == d) ≡ b → free_in (find (is_numbered d) (peers_in plain os t (map (moved_peer (at_peer d (putting_one f))) ps))) ≡ free_in (find (is_numbered d) (peers_in plain os t ps)) - 1
        → free_in (cond b (Some (peer_in plain os t (moved_peer (at_peer d (putting_one f)) y))) (find (is_numbered d) (peers_in plain os t (map (moved_peer (at_peer d (putting_one f))) ps)))) ≡ free_in (cond b (Some (peer_in plain os t y)) (find (is_numbered d) (peers_in plain os t ps))) - 1
    go true e rest = ap (λ (b : Bool). (after_moves (cond b (putting_one f) []) y.ends).free) (eq-eqb d y.number (sym (eqb-true y.number d e)))
    go false e rest = rest

pub put-free : (p : Parts) (d : ℕ) (f : List ℕ) → free_to (state_of (done (frame_put d f) p)) d ≡ free_to (state_of p) d - 1
put-free p d f = found-free (state_of (done (frame_put d f) p)) d ∙ put-found (parts_read p) p.table d f p.peers ∙ ap (λ (n : ℕ). n - 1) (sym (found-free (state_of p) d))

-- they are enough where as many are free as there are frames
pub posted-lacks : (s : DomainState) (x : Post) → lacks_buffers s (puts_of x) ≡ nat_lt (free_to s x.peer) (frames_needed x.letter)
posted-lacks s x =
    let some = some-frames x.letter in
    ap (λ (ps : List (List ℕ)). lacks_buffers s (map (put_as x) ps)) some.are
    ∙ ap (λ (n : ℕ). nat_lt (free_to s x.peer) n) (length-map (some.first ∷ some.others) (put_as x) ∙ ap (λ (ps : List (List ℕ)). length ps) (sym some.are))

-- and so many buffers does the lane have at all
pub posted-passes : (s : DomainState) (x : Post) → passes_lane s (puts_of x) ≡ nat_lt (size_to s x.peer) (frames_needed x.letter)
posted-passes s x =
    let some = some-frames x.letter in
    ap (λ (ps : List (List ℕ)). passes_lane s (map (put_as x) ps)) some.are
    ∙ ap (λ (n : ℕ). nat_lt (size_to s x.peer) n) (length-map (some.first ∷ some.others) (put_as x) ∙ ap (λ (ps : List (List ℕ)). length ps) (sym some.are))

-- a lane that has enough is there
pub posted-place : (p : Parts) (x : Post) → lacks_buffers (state_of p) (puts_of x) ≡ false → (j : ℕ) × (Some j ≡ position (λ (y : Peer LaneSeen). y.number == x.peer) p.peers)
posted-place p x enough =
    let some = some-frames x.letter in
    let one : 1 ≤ frames_needed x.letter = let many = ap (λ (ps : List (List ℕ)). length ps) some.are in omega (arith, many) in
    let free = ltb-false (free_to (state_of p) x.peer) (frames_needed x.letter) (sym (posted-lacks (state_of p) x) ∙ enough) in
    free-place p x.peer (omega (arith, one, free))

-- ---- a call that puts them

posted-ids : (x : Post) (fs : List (List ℕ)) (p : Parts) → (ids_in (done_all (putting_all (map (put_as x) fs)) p).requests ≡ ids_in p.requests) × ((done_all (putting_all (map (put_as x) fs)) p).records.lent ≡ p.records.lent)
posted-ids x [] p = (refl, refl)
posted-ids x (f ∷ fs) p = posted-ids x fs (done (frame_put x.peer (made x.source x.destination f)) p)

module _ (p : Parts) (sound : Sound p) (node : ℕ) (call : DomainCall) (x : Post) (j : ℕ) (peer : Some j ≡ position (λ (y : Peer LaneSeen). y.number == x.peer) p.peers) where
  pub posted-means : success_puts (state_of p) node call ≡ puts_of x → call_steps p node call None ≡ putting_all (success_puts (state_of p) node call)
      → changed_all (state_of p) (success_changes (state_of p) node call) ≡ changed (state_of p) (buffers_used x.peer (frames_needed x.letter)) → success_returned (state_of p) node call ≡ [] → success_ends (state_of p) call ≡ None → success_releases call ≡ None → success_packet (state_of p) call ≡ None → Means p node call None
  posted-means puts steps changes back ends releases lends =
      let is = steps ∙ ap putting_all puts in
      let still = posted-ids x (spellings x.letter) p in
      record {
        state = ap (λ (cs : List Step). state_of (done_all cs p)) is ∙ posted-state x p (spellings x.letter) j sound peer ∙ sym changes;
        moves = λ n.
            ap (λ (cs : List Step). all_moves cs n) is ∙ puts-moves (puts_of x) n
            ∙ ap (λ (fs : List (ℕ × List ℕ)). putting (frames_to n fs)) (sym puts)
            ∙ sym (append-nil (putting (frames_to n (success_puts (state_of p) node call))))
            ∙ ap (λ (is : List Item). moves_at (success_puts (state_of p) node call) is n) (sym back);
        ids = ap (λ (cs : List Step). ids_in (done_all cs p).requests) is ∙ still.0 ∙ sym (append-nil (ids_in p.requests)) ∙ ap (λ (o : Option ℕ). lists.without o (ids_in p.requests) ++ []) (sym ends);
        fresh = tt;
        lent = None;
        packets = ap (λ (cs : List Step). (done_all cs p).records.lent) is ∙ still.1 ∙ sym (append-nil p.records.lent) ∙ ap (λ (o : Option ℕ). lists.without o p.records.lent ++ []) (sym releases);
        lends = sym lends;
      }

-- ---- a call that is refused only where its lane lacks buffers

-- its success puts the frames of a post
module _ (s : DomainState) (node : ℕ) (call : DomainCall) (x : Post) (word : refusal s node call ≡ cond (lacks_buffers s (success_puts s node call)) (Some NoBuffer) None) (puts : success_puts s node call ≡ puts_of x) where
  by-buffers : (lacks : Bool) → lacks ≡ lacks_buffers s (puts_of x) → refusal s node call ≡ cond lacks (Some NoBuffer) None
  by-buffers lacks is = word ∙ ap (λ (b : Bool). cond b (Some NoBuffer) None) (ap (lacks_buffers s) puts ∙ sym is)

  -- what it notes
  pub sent-told : (lines lines' : List Line) (r : Result (Unit {0}) Refusal) → is_err r ≡ lacks_buffers s (puts_of x) → OnErr r (lines' ≡ lines) → OnOk r (lines' ≡ noted_all lines (map put_entry (puts_of x))) → lines' ≡ noted_all lines (map put_entry (puts_made s node call))
  sent-told lines lines' (Err w) full silent told = silent ∙ nothing-noted s node call NoBuffer lines (by-buffers true full)
  sent-told lines lines' (Ok done) full silent told = told ∙ ap (λ (qs : List (ℕ × List ℕ)). noted_all lines (map put_entry qs)) (sym (puts-done s node call (by-buffers false full) ∙ puts))

-- what it does
pub sent-acts : {L : Type 0} (M : L → List LaneMove → L → Type 0) (node : ℕ) (call : DomainCall) (x : Post) (old new : Holding L)
    → refusal (state_of old.parts) node call ≡ cond (lacks_buffers (state_of old.parts) (success_puts (state_of old.parts) node call)) (Some NoBuffer) None → success_puts (state_of old.parts) node call ≡ puts_of x → call_steps old.parts node call None ≡ putting_all (success_puts (state_of old.parts) node call) → agrees ≡ success (state_of old.parts) node call
    → (lacks_buffers (state_of old.parts) (puts_of x) ≡ false → Means old.parts node call None) → (r : Result (Unit {0}) Refusal) → is_err r ≡ lacks_buffers (state_of old.parts) (puts_of x) → IfErr r (λ w. w ≡ NoBuffer) → OnErr r (new ≡ old) → OnOk r (Did M (putting_all (puts_of x)) old new) → Acts M node call old new (sent r) None
sent-acts M node call x old new word puts steps answer means (Err w) full is stays did = subst (λ v. Acts M node call old new (refuses v) None) (sym is) (acts-refused M node call old new NoBuffer (by-buffers (state_of old.parts) node call x word puts true full) stays)
sent-acts M node call x old new word puts steps answer means (Ok done) full is stays did = acts-done M node call old new agrees None (by-buffers (state_of old.parts) node call x word puts false full) answer (record {
  did = subst (λ (cs : List Step). Did M cs old new) (sym (steps ∙ ap putting_all puts)) did;
  means = means (sym full);
})
