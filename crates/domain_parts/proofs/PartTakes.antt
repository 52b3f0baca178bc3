-- A frame is taken, and the open part of its peer ends with it, if one is open: what holds of the parts in which the rest is done, and that it is
-- one step with it.
use Rattle.std.proofs.Common.{◌≡◌, ℕ, zero, suc, ◌-◌, ◌<◌, ◌≤◌, Bool, true, false, cond, List, [], ◌∷◌, ◌++◌, map, Option, Some, None, refl, sym, ap, ap₂, ◌∙◌, subst, arith, eq-eqb, append-nil}
use Rattle.std.specs.Prelude.{filter, find, not, nat_lt, option_map, slice_get, slice_set, ◌==◌}
use Rattle.std.specs.List.{AllByRecursion}
use Rattle.std.proofs.lemmas.Bool.{eqb-true}
use Rattle.std.proofs.lemmas.List.Elements.{Contains-append_left, filter-append}
use Rattle.mc_base.specs.Limits.{domain_limit}
use Rattle.lane_end.specs.Numbers.{AreApart, often}
use Rattle.lane_end.specs.ReceiveMoves.{Took}
use Rattle.lane_end.specs.ReceiverContract.{without}
use Rattle.lane_end.proofs.CountLemmas.{often-append, often-contained, often-without, tick}
use Rattle.board_model.specs.Change.{changed, frame_taken, held_as}
use Rattle.board_model.specs.Lists.{changed_first}
use Rattle.board_model.specs.State as state
use Rattle.board_model.specs.State.{DomainState, HeldFrame, Part, held_of, holds_from, is_numbered}
use Rattle.buffer_book.specs.Book.{Book, IsQueued}
use Rattle.buffer_book.proofs.Sets as sets
use Rattle.domain_parts.specs.declared.parts.OpenPart.{OpenPart}
use Rattle.domain_parts.specs.declared.peer.Peer.{Peer}
use Rattle.endpoint_table.specs.Table as endpoint_table
use Rattle.domain_parts.specs.AllMoved.{giving, numbers_of}
use Rattle.domain_parts.specs.EndedParts.{ended, ending, frames_open, without_open}
use Rattle.domain_parts.specs.GivingBack.{AreOut, AreOutAt}
use Rattle.domain_parts.specs.InBook.{frames_at, open_parts, part_read}
use Rattle.domain_parts.specs.LaneMoves.{LaneMove, receiver}
use Rattle.domain_parts.specs.LaneSeen.{LaneSeen, after_move, after_moves}
use Rattle.domain_parts.specs.Parts.{Parts, Sound, parts_read, plain, state_of}
use Rattle.domain_parts.specs.Peers.{held_in, part_from, peer_in, peers_in}
use Rattle.domain_parts.specs.InPlaces.{slots_of}
use Rattle.domain_parts.specs.Records.{is_part_of, part_open, without_part, without_part_of}
use Rattle.domain_parts.specs.Sound.{AreRising}
use Rattle.domain_parts.specs.Steps.{Step, at_peer, done, giving_after, moved_peer, peers_after, step_moves}
use Rattle.domain_parts.specs.Table.{PartRead}
use Rattle.domain_parts.proofs.GivingLemmas.{after-giving, back_from, stands-queued}
use Rattle.domain_parts.proofs.PartEnds.{are-open, ended-more, ended-out, part_ended-is, part_ended-keeps}
use Rattle.domain_parts.proofs.ChangedPeers.{number-above}
use Rattle.domain_parts.proofs.PartLists.{found-peer, gone-found, held-without, none-gone, none-often, other-found, read-found}
use Rattle.domain_parts.proofs.Placed.{one-most, times-here}
use Rattle.domain_parts.proofs.Stepping.{set-is-map}
use Rattle.domain_parts.proofs.Turning.{seen-then}

-- ---- lists

pub set-again : {X : Type 0} (xs : List X) (i : ℕ) (x y : X) → slice_set (slice_set xs i x) i y ≡ slice_set xs i y
set-again [] i x y = refl
set-again (z ∷ xs) zero x y = refl
set-again {X} (z ∷ xs) (suc i) x y = ap (λ (zs : List X). z ∷ zs) (set-again xs i x y)

set-here : {X : Type 0} (xs : List X) (i : ℕ) (x : X) → slice_get xs i ≡ Some x → slice_set xs i x ≡ xs
set-here [] i x there = refl
set-here {X} (z ∷ xs) zero x there = let is : z ≡ x = cc in ap (λ (y : X). y ∷ xs) (sym is)
set-here {X} (z ∷ xs) (suc i) x there = ap (λ (zs : List X). z ∷ zs) (set-here xs i x there)

pub map-same : {X Y : Type 0} (f g : X → Y) → ((x : X) → f x ≡ g x) → (xs : List X) → map f xs ≡ map g xs
map-same f g same [] = refl
map-same f g same (x ∷ xs) = ap₂ (λ u us. u ∷ us) (same x) (map-same f g same xs)

-- a buffer that is out is given back, whatever came out after it
without-last : (f n : ℕ) (out : List ℕ) → 0 < often f out → without f (out ++ n ∷ []) ≡ without f out ++ n ∷ []
without-last f n [] some = absurd (omega (arith, some))
without-last f n (m ∷ out) some = go (m == f) refl (λ rest. without-last f n out rest)
  where
    go : (c : Bool) → (m == f) ≡ c → (0 < often f out → without f (out ++ n ∷ []) ≡ without f out ++ n ∷ []) → cond c (out ++ n ∷ []) (m ∷ without f (out ++ n ∷ [])) ≡ cond c out (m ∷ without f out) ++ n ∷ []
    go true e later = refl
    go false e later =
        let none : tick m f ≡ 0 = ap (λ (c : Bool). cond c 1 0) e in
        ap (λ (ks : List ℕ). m ∷ ks) (later (omega (arith, some, none)))

back-last : (fs : List ℕ) (n : ℕ) (out : List ℕ) → AreOut out fs → back_from fs (out ++ n ∷ []) ≡ back_from fs out ++ n ∷ []
back-last [] n out are = refl
back-last (f ∷ fs) n out are = ap (back_from fs) (without-last f n out (often-contained out f are.0)) ∙ back-last fs n (without f out) are.1

back-fewer : (m : ℕ) (fs out : List ℕ) → AreOut out fs → often m (back_from fs out) ≤ often m out
back-fewer m [] out are = omega arith
back-fewer m (f ∷ fs) out are =
    let rest = back-fewer m fs (without f out) are.1 in
    let one = often-without m f out (often-contained out f are.0) in
    omega (arith, rest, one)

-- they are still out where one more is
out-more : (n : ℕ) (out fs : List ℕ) → AreOut out fs → AreOut (out ++ n ∷ []) fs
out-more n out [] are = tt
out-more n out (f ∷ fs) are =
    (Contains-append_left out (n ∷ []) f are.0, subst (λ (ks : List ℕ). AreOut ks fs) (sym (without-last f n out (often-contained out f are.0))) (out-more n (without f out) fs are.1))

-- what is out at the ends towards a peer is out at the one peer of its number
peer-alike : (ps : List (Peer LaneSeen)) (i j : ℕ) (x y : Peer LaneSeen) → AreRising (numbers_of ps) → slice_get ps i ≡ Some x → slice_get ps j ≡ Some y → y.number ≡ x.number → y ≡ x
peer-alike [] i j x y rising at at' same = absurd cc
peer-alike (z ∷ ps) zero zero x y rising at at' same = cc
peer-alike (z ∷ ps) zero (suc j) x y rising at at' same =
    let is : z ≡ x = cc in
    let above = number-above z.number ps j y rising.0 at' in
    let number = ap (λ (w : Peer LaneSeen). w.number) is in
    absurd (omega (arith, above, number, same))
peer-alike (z ∷ ps) (suc i) zero x y rising at at' same =
    let is : z ≡ y = cc in
    let above = number-above z.number ps i x rising.0 at in
    let number = ap (λ (w : Peer LaneSeen). w.number) is in
    absurd (omega (arith, above, number, same))
peer-alike (z ∷ ps) (suc i) (suc j) x y rising at at' same = peer-alike ps i j x y rising.1 at at' same

out-at : (number : ℕ) (fs : List ℕ) (ps : List (Peer LaneSeen)) → AreOutAt plain number fs ps → (i : ℕ) (x : Peer LaneSeen) → AreRising (numbers_of ps) → slice_get ps i ≡ Some x → x.number ≡ number → AreOut x.ends.out fs
out-at number fs ps out i x rising there own = subst (λ (y : Peer LaneSeen). AreOut y.ends.out fs) (peer-alike ps i out.place x out.peer rising there out.there (out.is ∙ sym own)) out.out

-- where the peer of a number is changed, and the part with it, the part that was open there does not count
module _ (t : endpoint_table.Table) (n : ℕ) (part : Option Part) (os os' : List PartRead) (others : (k : ℕ) → (k ≡ n → ⊥) → part_from os k ≡ part_from os' k) where
  abbrev with_taken : state.Peer → state.Peer
  with_taken y = record y { shown = y.shown - 1; part = part }

  other-peer : (z : Peer LaneSeen) → (z.number ≡ n → ⊥) → peer_in plain os t z ≡ peer_in plain os' t z
  other-peer z differs = ap (λ (q : Option Part). record (peer_in plain os t z) { part = q }) (others z.number differs)

  all-above : (ps : List (Peer LaneSeen)) → AllByRecursion (λ m. n < m) (numbers_of ps) → peers_in plain os t ps ≡ peers_in plain os' t ps
  all-above [] above = refl
  all-above (z ∷ ps) above = ap₂ (λ y ys. y ∷ ys) (other-peer z (λ e. let lt = above.0 in omega (arith, lt, e))) (all-above ps above.1)

  same-first : (ps : List (Peer LaneSeen)) → AreRising (numbers_of ps) → changed_first (is_numbered n) with_taken (peers_in plain os t ps) ≡ changed_first (is_numbered n) with_taken (peers_in plain os' t ps)
  same-first [] rising = refl
  same-first (z ∷ ps) rising = go (z.number == n) refl (same-first ps rising.1)
    where
      go : (c : Bool) → (z.number == n) ≡ c → changed_first (is_numbered n) with_taken (peers_in plain os t ps) ≡ changed_first (is_numbered n) with_taken (peers_in plain os' t ps)
          → cond c (with_taken (peer_in plain os t z) ∷ peers_in plain os t ps) (peer_in plain os t z ∷ changed_first (is_numbered n) with_taken (peers_in plain os t ps)) ≡ cond c (with_taken (peer_in plain os' t z) ∷ peers_in plain os' t ps) (peer_in plain os' t z ∷ changed_first (is_numbered n) with_taken (peers_in plain os' t ps))
      go true e rest = ap (λ (ys : List state.Peer). with_taken (peer_in plain os t z) ∷ ys) (all-above ps (subst (λ (k : ℕ). AllByRecursion (λ m. k < m) (numbers_of ps)) (eqb-true z.number n e) rising.0))
      go false e rest = ap₂ (λ y ys. y ∷ ys) (other-peer z (λ same. absurd (let yes = eq-eqb z.number n same in cc (yes, e)))) rest

-- ---- the frames of the open part are those that are held

names_from : ℕ → List HeldFrame → List ℕ
names_from n hs = map (λ (h : HeldFrame). h.name) (filter (holds_from n) hs)

named : (k n : ℕ) (c : Bool) → (k == n) ≡ c → (ns : List ℕ) → filter (holds_from n) (map (held_as k) ns) ≡ cond c (map (held_as k) ns) []
named k n true e [] = refl
named k n false e [] = refl
named k n true e (m ∷ ns) = ap (λ (c : Bool). cond c (held_as k m ∷ filter (holds_from n) (map (held_as k) ns)) (filter (holds_from n) (map (held_as k) ns))) e ∙ ap (λ (hs : List HeldFrame). held_as k m ∷ hs) (named k n true e ns)
named k n false e (m ∷ ns) = ap (λ (c : Bool). cond c (held_as k m ∷ filter (holds_from n) (map (held_as k) ns)) (filter (holds_from n) (map (held_as k) ns))) e ∙ named k n false e ns

names_back : (k : ℕ) (ns : List ℕ) → map (λ (h : HeldFrame). h.name) (map (held_as k) ns) ≡ ns
names_back k [] = refl
names_back k (m ∷ ns) = ap (λ (ms : List ℕ). m ∷ ms) (names_back k ns)

module _ (b : Book) (n : ℕ) where
  abbrev rest_held : List OpenPart → List HeldFrame
  rest_held os = filter (holds_from n) (held_in (open_parts b os))

  none-from : (os : List OpenPart) → find (is_part_of n) os ≡ None → rest_held os ≡ []
  none-from [] none = refl
  none-from (o ∷ os) none = go (o.slot.peer == n) refl none (λ e. none-from os e)
    where
      go : (c : Bool) → (o.slot.peer == n) ≡ c → cond c (Some o) (find (is_part_of n) os) ≡ None → (find (is_part_of n) os ≡ None → rest_held os ≡ []) → rest_held (o ∷ os) ≡ []
      go true e none later = absurd cc
      go false e none later =
          filter-append (holds_from n) (map (held_as o.slot.peer) (frames_at b o.slot)) (held_in (open_parts b os))
          ∙ ap₂ (λ (xs ys : List HeldFrame). xs ++ ys) (named o.slot.peer n false e (frames_at b o.slot)) (later none)

  one-from : (os : List OpenPart) (o : OpenPart) → often n (map (λ (x : OpenPart). x.slot.peer) os) ≤ 1 → find (is_part_of n) os ≡ Some o → rest_held os ≡ map (held_as o.slot.peer) (frames_at b o.slot)
  one-from [] o most found = absurd cc
  one-from (x ∷ os) o most found = go (x.slot.peer == n) refl found (λ few e. one-from os o few e)
    where
      split : rest_held (x ∷ os) ≡ filter (holds_from n) (map (held_as x.slot.peer) (frames_at b x.slot)) ++ rest_held os
      split = filter-append (holds_from n) (map (held_as x.slot.peer) (frames_at b x.slot)) (held_in (open_parts b os))

      go : (c : Bool) → (x.slot.peer == n) ≡ c → cond c (Some x) (find (is_part_of n) os) ≡ Some o → (often n (map (λ (y : OpenPart). y.slot.peer) os) ≤ 1 → find (is_part_of n) os ≡ Some o → rest_held os ≡ map (held_as o.slot.peer) (frames_at b o.slot))
          → rest_held (x ∷ os) ≡ map (held_as o.slot.peer) (frames_at b o.slot)
      go true e found later =
          let same : x ≡ o = cc in
          let one : tick x.slot.peer n ≡ 1 = ap (λ (c : Bool). cond c 1 0) e in
          let none = none-from os (none-often n os (omega (arith, most, one))) in
          split ∙ ap₂ (λ (xs ys : List HeldFrame). xs ++ ys) (named x.slot.peer n true e (frames_at b x.slot)) none ∙ append-nil (map (held_as x.slot.peer) (frames_at b x.slot)) ∙ ap (λ (y : OpenPart). map (held_as y.slot.peer) (frames_at b y.slot)) same
      go false e found later =
          let none : tick x.slot.peer n ≡ 0 = ap (λ (c : Bool). cond c 1 0) e in
          split ∙ ap₂ (λ (xs ys : List HeldFrame). xs ++ ys) (named x.slot.peer n false e (frames_at b x.slot)) (later (omega (arith, most, none)) found)

-- ---- the part ends, if one is open

module _ (p : Parts) (sound : Sound p) (i : ℕ) (x : Peer LaneSeen) (there : slice_get p.peers i ≡ Some x) where
  abbrev n : ℕ
  n = x.number

  module _ (o : OpenPart) (found : part_open p.records n ≡ Some o) where
    own : o.slot.peer ≡ n
    own = found-peer n p.records.parts o found

    its : part_open p.records o.slot.peer ≡ Some o
    its = ap (λ (m : ℕ). part_open p.records m) own ∙ found

    abbrev fs : List ℕ
    fs = frames_at p.book o.slot

    abbrev x1 : Peer LaneSeen
    x1 = record x { ends = after_moves (giving fs) x.ends }

    set_is : slice_set p.peers i x1 ≡ map (moved_peer (at_peer o.slot.peer (giving fs))) p.peers
    set_is = set-is-map o.slot.peer (giving fs) p.peers i x sound.peers.rising there (sym own)

    are-out : AreOut x.ends.out fs
    are-out = out-at o.slot.peer fs p.peers (ended-out p sound o its) i x sound.peers.rising there (sym own)

  -- the peer then
  abbrev pub peer_ended : Option OpenPart → Peer LaneSeen
  peer_ended found = record x { ends = after_moves (giving (frames_open p.book found)) x.ends }

  pub ended-keeps : (found : Option OpenPart) → part_open p.records n ≡ found → Sound (ended found p)
  ended-keeps None is = sound
  ended-keeps (Some o) is = part_ended-keeps p sound o (its o is)

  pub ended-there : (found : Option OpenPart) → part_open p.records n ≡ found → slice_get (ended found p).peers i ≡ Some (peer_ended found)
  ended-there None is = there
  ended-there (Some o) is = subst (λ (zs : List (Peer LaneSeen)). slice_get zs i ≡ Some (x1 o is)) (set_is o is) (sets.set-same p.peers i x (x1 o is) there)

  pub ended-set : (found : Option OpenPart) → part_open p.records n ≡ found → slice_set p.peers i (peer_ended found) ≡ (ended found p).peers
  ended-set None is = set-here p.peers i x there
  ended-set (Some o) is = set_is o is

  -- what else they are
  pub ended-parts : (found : Option OpenPart) → part_open p.records n ≡ found → ended found p ≡ record { book = without_open p.book found; records = without_part_of p.records n; requests = p.requests; table = p.table; peers = (ended found p).peers }
  ended-parts None is = ap (λ (os : List OpenPart). record p { records = record p.records { parts = os } }) (sym (none-gone n p.records.parts is))
  ended-parts (Some o) is = ap (λ (m : ℕ). record (ended (Some o) p) { records = without_part_of p.records m }) (own o is)

  -- the part is an item in a queue
  pub open-queued : (o : OpenPart) → part_open p.records n ≡ Some o → IsQueued p.book o.slot
  open-queued o is =
      let more = times-here o.slot (slots_of (without_part_of p.records o.slot.peer) p.requests) (slots_of p.records p.requests) (ended-more p sound o (its o is)) in
      stands-queued plain p.book p.records p.requests p.table p.peers sound o.slot (omega (arith, more))

  pub ended-closed : (found : Option OpenPart) → part_open p.records n ≡ found → part_open (ended found p).records n ≡ None
  ended-closed None is = is
  ended-closed (Some o) is = ap (λ (m : ℕ). find (is_part_of n) (without_part m p.records.parts)) (own o is) ∙ gone-found n p.records.parts

  pub open-out : (found : Option OpenPart) → part_open p.records n ≡ found → AreOut x.ends.out (frames_open p.book found)
  open-out None is = tt
  open-out (Some o) is = are-out o is

  -- one more buffer is out
  module _ (m : ℕ) (apart : AreApart x.ends.size_from (x.ends.out ++ m ∷ [])) where
    pub ended-apart : (found : Option OpenPart) → part_open p.records n ≡ found → AreApart (peer_ended found).ends.size_from ((peer_ended found).ends.out ++ m ∷ [])
    ended-apart found is =
        let fs = frames_open p.book found in
        subst (λ (l : LaneSeen). AreApart l.size_from (l.out ++ m ∷ [])) (sym (after-giving fs x.ends))
        (λ k. let was = apart k in let all = often-append k x.ends.out (m ∷ []) in let now = often-append k (back_from fs x.ends.out) (m ∷ []) in let fewer = back-fewer k fs x.ends.out (open-out found is) in omega (arith, was, all, now, fewer))

    pub still-out : (found : Option OpenPart) → part_open p.records n ≡ found → AreOut (x.ends.out ++ m ∷ []) (frames_open p.book found)
    still-out found is = out-more m x.ends.out (frames_open p.book found) (open-out found is)

  -- what is seen of the ends is the same whether the frame is taken first or the buffers go back
  pub ended-after : (m : ℕ) (frame : List ℕ) (ms : List LaneMove) (found : Option OpenPart) → part_open p.records n ≡ found
      → after_moves (receiver (Took m frame) ∷ (giving (frames_open p.book found) ++ ms)) x.ends ≡ after_moves (receiver (Took m frame) ∷ ms) (peer_ended found).ends
  ended-after m frame ms found is =
      let fs = frames_open p.book found in
      let l = after_move (receiver (Took m frame)) x.ends in
      seen-then (giving fs) ms l
      ∙ ap (after_moves ms)
      (after-giving fs l
      ∙ ap (λ (ks : List ℕ). record l { out = ks }) (back-last fs m x.ends.out (open-out found is))
      ∙ ap (after_move (receiver (Took m frame))) (sym (after-giving fs x.ends)))

  -- ---- it is one step with what the frame does

  module _ (c : Step) (m : ℕ) (frame : List ℕ) (ms : List LaneMove) (moves : (k : ℕ) → step_moves c k ≡ at_peer n (receiver (Took m frame) ∷ ms) k) where
    pub ending-moves : (found : Option OpenPart) → part_open p.records n ≡ found → (k : ℕ) → step_moves (ending p.book found c) k ≡ at_peer n (receiver (Took m frame) ∷ (giving (frames_open p.book found) ++ ms)) k
    ending-moves None is k = moves k
    ending-moves (Some o) is k = ap (giving_after (fs o is)) (moves k) ∙ at (n == k)
      where
        at : (b : Bool) → giving_after (fs o is) (cond b (receiver (Took m frame) ∷ ms) []) ≡ cond b (receiver (Took m frame) ∷ (giving (fs o is) ++ ms)) []
        at true = refl
        at false = refl

    module _ (plainly : (ps : List (Peer LaneSeen)) → peers_after c ps ≡ map (moved_peer (step_moves c)) ps) where
      ended_peers : (o : OpenPart) (is : part_open p.records n ≡ Some o) → map (moved_peer (λ k. giving_after (fs o is) (step_moves c k))) p.peers ≡ peers_after c (map (moved_peer (at_peer o.slot.peer (giving (fs o is)))) p.peers)
      ended_peers o is =
          let took = receiver (Took m frame) ∷ ms in
          let both = receiver (Took m frame) ∷ (giving (fs o is) ++ ms) in
          let sound1 = part_ended-keeps p sound o (its o is) in
          map-same (moved_peer (λ k. giving_after (fs o is) (step_moves c k))) (moved_peer (at_peer n both)) (λ z. ap (λ (ks : List LaneMove). record z { ends = after_moves ks z.ends }) (ending-moves (Some o) is z.number)) p.peers
          ∙ sym (set-is-map n both p.peers i x sound.peers.rising there refl)
          ∙ ap (λ (l : LaneSeen). slice_set p.peers i (record x { ends = l })) (ended-after m frame ms (Some o) is)
          ∙ sym (set-again p.peers i (x1 o is) (record x { ends = after_moves took (x1 o is).ends }))
          ∙ ap (λ (zs : List (Peer LaneSeen)). slice_set zs i (record x { ends = after_moves took (x1 o is).ends })) (set_is o is)
          ∙ set-is-map n took (map (moved_peer (at_peer o.slot.peer (giving (fs o is)))) p.peers) i (x1 o is) sound1.peers.rising (ended-there (Some o) is) refl
          ∙ map-same (moved_peer (at_peer n took)) (moved_peer (step_moves c)) (λ z. ap (λ (ks : List LaneMove). record z { ends = after_moves ks z.ends }) (sym (moves z.number))) (map (moved_peer (at_peer o.slot.peer (giving (fs o is)))) p.peers)
          ∙ sym (plainly (map (moved_peer (at_peer o.slot.peer (giving (fs o is)))) p.peers))

      pub ending-plainly : (found : Option OpenPart) (ps : List (Peer LaneSeen)) → peers_after (ending p.book found c) ps ≡ map (moved_peer (step_moves (ending p.book found c))) ps
      ending-plainly None ps = plainly ps
      ending-plainly (Some o) ps = refl

      pub ending-done : (found : Option OpenPart) → part_open p.records n ≡ found → done (ending p.book found c) p ≡ done c (ended found p)
      ending-done None is = refl
      ending-done (Some o) is = ap (λ (zs : List (Peer LaneSeen)). record (done c (ended (Some o) p)) { peers = zs }) (ended_peers o is)

  -- ---- the state after a frame is taken is the same

  pub held-are : (found : Option OpenPart) → part_open p.records n ≡ found → held_of (state_of p) n ≡ frames_open p.book found
  held-are None is = ap (map (λ (h : HeldFrame). h.name)) (none-from p.book n p.records.parts is)
  held-are (Some o) is =
      let most = (are-open p sound o (its o is)).apart n in
      let within = one-most (nat_lt n domain_limit) in
      ap (map (λ (h : HeldFrame). h.name)) (one-from p.book n p.records.parts o (omega (arith, most, within)) is) ∙ names_back o.slot.peer (fs o is)

  module _ (part : Option Part) (names : List ℕ) where
    abbrev by : state.Peer → state.Peer
    by y = record y { shown = y.shown - 1; part = part }

    same-changed : (os os' : List PartRead) → ((k : ℕ) → (k ≡ n → ⊥) → part_from os k ≡ part_from os' k) → changed_first (is_numbered n) by (peers_in plain os p.table p.peers) ≡ changed_first (is_numbered n) by (peers_in plain os' p.table p.peers)
    same-changed os os' others = same-first p.table n part os os' others p.peers sound.peers.rising

    pub ended-taken : (found : Option OpenPart) → part_open p.records n ≡ found → changed (state_of (ended found p)) (frame_taken n part names) ≡ changed (state_of p) (frame_taken n part names)
    ended-taken None is = refl
    ended-taken (Some o) is =
        let left = without_part o.slot.peer p.records.parts in
        let read = open_parts p.book left in
        let others : (k : ℕ) → (k ≡ n → ⊥) → part_from read k ≡ part_from (parts_read p) k =
        λ k differ. read-found p.book k left ∙ ap (option_map (λ (z : OpenPart). (part_read p.book z).part)) (other-found o.slot.peer k (λ e. differ (e ∙ own o is)) p.records.parts) ∙ sym (read-found p.book k p.records.parts) in
        let held : filter (λ h. not (holds_from n h)) (held_in read) ≡ filter (λ h. not (holds_from n h)) (held_in (parts_read p)) =
        sym (held-without p.book n left)
        ∙ ap (λ (m : ℕ). held_in (open_parts p.book (without_part n (without_part m p.records.parts)))) (own o is)
        ∙ ap (λ (os : List OpenPart). held_in (open_parts p.book os)) (none-gone n (without_part n p.records.parts) (gone-found n p.records.parts))
        ∙ held-without p.book n p.records.parts in
        ap (λ (s : DomainState). changed s (frame_taken n part names)) (part_ended-is p sound o (its o is))
        ∙ ap (λ (ps : List state.Peer). record (state_of p) { peers = ps; held = filter (λ h. not (holds_from n h)) (held_in read) ++ map (held_as n) names }) (same-changed read (parts_read p) others)
        ∙ ap (λ (hs : List HeldFrame). record (changed (state_of p) (frame_taken n part names)) { held = hs ++ map (held_as n) names }) held
