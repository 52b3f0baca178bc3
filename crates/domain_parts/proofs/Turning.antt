-- What is done at the peer at a place in a turn: from the ends of that peer to the steps, the deeds and the moves of the inside.
use Rattle.lane_end.specs.SendMoves.{Sent}
use Rattle.std.proofs.Common.{◌≡◌, ℕ, zero, suc, ◌+◌, ◌<◌, ◌≤◌, Bool, true, false, cond, List, [], ◌∷◌, ◌++◌, length, map, Some, refl, sym, ap, ◌∙◌, subst, arith, eq-eqb}
use Rattle.std.specs.Prelude.{option_map, slice_get, slice_index_or, slice_set, ◌==◌}
use Rattle.std.proofs.lemmas.List.{append-nil, length-map}
use Rattle.std.proofs.lemmas.Option.{slice_get-get_or, slice_get-map, slice_get_within}
use Rattle.board_model.specs.Deeds.{AllMayDo, Deed, after_deed, after_deeds}
use Rattle.std.specs.List.{AllByRecursion}
use Rattle.board_model.specs.State.{DomainState, held_from}
use Rattle.buffer_book.specs.Book.{Book}
use Rattle.endpoint_table.specs.Table as endpoint_table
use Rattle.request_set.specs.Requests.{Requests}
use Rattle.domain_parts.specs.declared.peer.Peer.{Peer}
use Rattle.domain_parts.specs.AllMoved.{AllMoved, ends_of, numbers_of}
use Rattle.domain_parts.specs.CallSteps.{Rests}
use Rattle.domain_parts.specs.Doing.{Doing, ids_in}
use Rattle.domain_parts.specs.Sound.{AreRising}
use Rattle.domain_parts.specs.LaneMoves.{LaneMove, sender}
use Rattle.domain_parts.specs.LaneSeen.{LaneSeen, after_move, after_moves}
use Rattle.domain_parts.specs.Parts.{Holding, Parts, Sound, holding_in, nobody, parts_in, peer_at, peer_seen, peers_seen, plain, state_of}
use Rattle.domain_parts.specs.Records.{Records}
use Rattle.domain_parts.specs.Steps.{Did, Step, all_moves, at_peer, done, done_all, changed_peer, moved_peer, names_told, reply_owed, reply_put, step_moves, with_names, with_reply, with_reply_put}
use Rattle.domain_parts.proofs.CountsFrom as counts
use Rattle.domain_parts.proofs.CountsFrom.{count-both, lent-is, queued-is, count-three}
use Rattle.domain_parts.proofs.PeerPlaces.{All-from}
use Rattle.domain_parts.proofs.Stepping.{did-then, done-numbers, moves-append, one-moved, one-seen}
use Rattle.domain_parts.proofs.Tables.{slice_get-read}
use Rattle.board_model.proofs.DeedJoins.{after-join}

-- ---- deeds after deeds

pub may-then : (s : DomainState) (xs ys : List Deed) → AllMayDo s xs → AllMayDo (after_deeds s xs) ys → AllMayDo s (xs ++ ys)
may-then s [] ys first then = then
may-then s (x ∷ xs) ys first then = (first.0, may-then (after_deed s x) xs ys first.1 then)

pub at-then : (d n : ℕ) (xs ys : List LaneMove) → at_peer d (xs ++ ys) n ≡ at_peer d xs n ++ at_peer d ys n
at-then d n xs ys = by (d == n)
  where
    by : (b : Bool) → cond b (xs ++ ys) [] ≡ cond b xs [] ++ cond b ys []
    by true = refl
    by false = refl

at-none : (d n : ℕ) → [] ≡ at_peer d [] n
at-none d n = by (d == n)
  where
    by : (b : Bool) → ◌≡◌ {A = List LaneMove} [] (cond b [] [])
    by true = refl
    by false = refl

module _ {L : Type 0} (M : L → List LaneMove → L → Type 0) where
  pub doing-none : (d : ℕ) (h : Holding L) → Rests M h → Doing M d [] [] h h
  doing-none d h rests = record { steps = []; did = record { parts = refl; moved = rests }; moves_are = at-none d; may = tt; state = refl; ids = refl; packets = refl }

  rests_by : ((l : L) → M l [] l) → (f : ℕ → List LaneMove) (ns : List ℕ) (xs ys : List L) → AllMoved M xs (map f ns) ys → AllMoved M ys (map (λ n. []) ns) ys
  rests_by none f [] [] [] moved = tt
  rests_by none f [] [] (y ∷ ys) moved = absurd moved
  rests_by none f [] (x ∷ xs) ys moved = absurd moved
  rests_by none f (n ∷ ns) [] ys moved = absurd moved
  rests_by none f (n ∷ ns) (x ∷ xs) [] moved = absurd moved
  rests_by none f (n ∷ ns) (x ∷ xs) (y ∷ ys) moved = (none y, rests_by none f ns xs ys moved.1)

  pub did-rests : ((l : L) → M l [] l) → (steps : List Step) (a b : Holding L) → Did M steps a b → Rests M b
  did-rests none steps a b did =
      let numbers : numbers_of b.parts.peers ≡ numbers_of a.parts.peers = ap (λ (p : Parts). numbers_of p.peers) did.parts ∙ done-numbers steps a.parts in
      subst (λ (ns : List ℕ). AllMoved M b.ends (map (λ n. []) ns) b.ends) (sym numbers) (rests_by none (all_moves steps) (numbers_of a.parts.peers) a.ends b.ends did.moved)

  pub doing-then : ((a b c : L) (xs ys : List LaneMove) → M a xs b → M b ys c → M a (xs ++ ys) c) → (d : ℕ) (xs ys : List Deed) (ms ks : List LaneMove) (a b c : Holding L) → Doing M d xs ms a b → Doing M d ys ks b c → Doing M d (xs ++ ys) (ms ++ ks) a c
  doing-then both d xs ys ms ks a b c first then = record {
    steps = first.steps ++ then.steps;
    did = did-then M both first.steps then.steps a b c first.did then.did;
    moves_are = λ n. moves-append first.steps then.steps n ∙ ap (λ zs. zs ++ all_moves then.steps n) (first.moves_are n) ∙ ap (λ zs. at_peer d ms n ++ zs) (then.moves_are n) ∙ sym (at-then d n ms ks);
    may = may-then (state_of a.parts) xs ys first.may (subst (λ s. AllMayDo s ys) first.state then.may);
    state = then.state ∙ ap (λ s. after_deeds s ys) first.state ∙ sym (after-join (state_of a.parts) xs ys);
    ids = then.ids ∙ first.ids;
    packets = then.packets ∙ first.packets;
  }

  -- the peers stay who they are
  pub did-numbers : (steps : List Step) (a b : Holding L) → Did M steps a b → numbers_of b.parts.peers ≡ numbers_of a.parts.peers
  did-numbers steps a b did = ap (λ (p : Parts). numbers_of p.peers) did.parts ∙ done-numbers steps a.parts

pub number-in : (ps : List (Peer LaneSeen)) (i : ℕ) → (slice_index_or ps i nobody).number ≡ slice_index_or (numbers_of ps) i 0
number-in [] i = refl
number-in (p ∷ ps) zero = refl
number-in (p ∷ ps) (suc i) = number-in ps i

pub same-number : (p p' : Parts) (i : ℕ) → numbers_of p'.peers ≡ numbers_of p.peers → (peer_at p' i).number ≡ (peer_at p i).number
same-number p p' i same = number-in p'.peers i ∙ ap (λ ns. slice_index_or ns i 0) same ∙ sym (number-in p.peers i)

pub same-length : (p p' : Parts) → numbers_of p'.peers ≡ numbers_of p.peers → length p'.peers ≡ length p.peers
same-length p p' same = sym (length-map p'.peers (λ x. x.number)) ∙ ap length same ∙ length-map p.peers (λ x. x.number)

-- ---- what is seen of a peer after its moves

pub seen-then : (xs ys : List LaneMove) (l : LaneSeen) → after_moves (xs ++ ys) l ≡ after_moves ys (after_moves xs l)
seen-then [] ys l = refl
seen-then (x ∷ xs) ys l = seen-then xs ys (after_move x l)

at-map : (f : Peer LaneSeen → Peer LaneSeen) (ps : List (Peer LaneSeen)) (i : ℕ) → i < length ps → slice_index_or (map f ps) i nobody ≡ f (slice_index_or ps i nobody)
at-map f [] i lt = absurd (omega (arith, lt))
at-map f (p ∷ ps) zero lt = refl
at-map f (p ∷ ps) (suc i) lt = at-map f ps i (omega (arith, lt))

-- a peer that changes moves its ends by these moves, and the others none
changed-moved : (n : ℕ) (f : Peer LaneSeen → Peer LaneSeen) (ms : List LaneMove) → ((x : Peer LaneSeen) → (f x).ends ≡ after_moves ms x.ends) → (x : Peer LaneSeen) → (changed_peer n f x).ends ≡ after_moves (at_peer n ms x.number) x.ends
changed-moved n f ms is x = go (n == x.number)
  where
    go : (b : Bool) → (cond b (f x) x).ends ≡ after_moves (cond b ms []) x.ends
    go true = is x
    go false = refl

changed-ends : (n : ℕ) (f : Peer LaneSeen → Peer LaneSeen) → ((x : Peer LaneSeen) → (f x).ends ≡ x.ends) → (x : Peer LaneSeen) → (changed_peer n f x).ends ≡ x.ends
changed-ends n f is x = go (n == x.number)
  where
    go : (b : Bool) → (cond b (f x) x).ends ≡ x.ends
    go true = is x
    go false = refl

-- a step leaves the ends towards the peer at a place as its moves do
one-end : (c : Step) (p : Parts) (i : ℕ) → i < length p.peers → (peer_at (done c p) i).ends ≡ after_moves (step_moves c (peer_at p i).number) (peer_at p i).ends
one-end (names_told peer names) p i lt = ap (λ (x : Peer LaneSeen). x.ends) (at-map (changed_peer peer (with_names names)) p.peers i lt) ∙ changed-ends peer (with_names names) (λ x. refl) (peer_at p i)
one-end (reply_owed peer r) p i lt = ap (λ (x : Peer LaneSeen). x.ends) (at-map (changed_peer peer (with_reply r)) p.peers i lt) ∙ changed-ends peer (with_reply r) (λ x. refl) (peer_at p i)
one-end (reply_put peer frame) p i lt = ap (λ (x : Peer LaneSeen). x.ends) (at-map (changed_peer peer (with_reply_put frame)) p.peers i lt) ∙ changed-moved peer (with_reply_put frame) (sender (Sent frame) ∷ []) (λ x. refl) (peer_at p i)
one-end other p i lt = ap (λ (x : Peer LaneSeen). x.ends) (at-map (moved_peer (step_moves other)) p.peers i lt)

all-cons : (c : Step) (cs : List Step) (n : ℕ) → all_moves (c ∷ cs) n ≡ step_moves c n ++ all_moves cs n
all-cons c [] n = sym (append-nil (step_moves c n))
all-cons c (d ∷ cs) n = refl

all-ends : (cs : List Step) (p : Parts) (i : ℕ) → i < length p.peers → (peer_at (done_all cs p) i).ends ≡ after_moves (all_moves cs (peer_at p i).number) (peer_at p i).ends
all-ends [] p i lt = refl
all-ends (c ∷ cs) p i lt =
    let numbers : numbers_of (done c p).peers ≡ numbers_of p.peers = done-numbers (c ∷ []) p in
    all-ends cs (done c p) i (let long = same-length p (done c p) numbers in omega (arith, long, lt))
    ∙ ap (λ n. after_moves (all_moves cs n) (peer_at (done c p) i).ends) (same-number p (done c p) i numbers)
    ∙ ap (after_moves (all_moves cs (peer_at p i).number)) (one-end c p i lt)
    ∙ sym (seen-then (step_moves c (peer_at p i).number) (all_moves cs (peer_at p i).number) (peer_at p i).ends)
    ∙ ap (λ ms. after_moves ms (peer_at p i).ends) (sym (all-cons c cs (peer_at p i).number))

pub doing-ends : {L : Type 0} (M : L → List LaneMove → L → Type 0) (deeds : List Deed) (ms : List LaneMove) (a b : Holding L) (i : ℕ) → i < length a.parts.peers → Doing M (peer_at a.parts i).number deeds ms a b → (peer_at b.parts i).ends ≡ after_moves ms (peer_at a.parts i).ends
doing-ends M deeds ms a b i lt did =
    let n = (peer_at a.parts i).number in
    ap (λ (p : Parts). (peer_at p i).ends) did.did.parts
    ∙ all-ends did.steps a.parts i lt
    ∙ ap (λ zs. after_moves zs (peer_at a.parts i).ends) (did.moves_are n ∙ ap (λ b. cond b ms []) (eq-eqb n n refl))

-- ---- one step, by the moves of a peer's ends

module _ {L : Type 0} (M : L → List LaneMove → L → Type 0) (m-none : (l : L) → M l [] l) (v : L → LaneSeen) (b : Book) (r : Records) (q : Requests) (t : endpoint_table.Table) (ps : List (Peer L)) where
  abbrev before : Parts
  before = parts_in v b r q t ps

  module _ (sound : Sound (parts_in v b r q t ps)) (i : ℕ) (x : Peer L) (there : slice_get ps i ≡ Some x) where
    pub seen-there : slice_get (peers_seen v ps) i ≡ Some (peer_seen v x)
    seen-there = slice_get-map (peer_seen v) ps i ∙ ap (option_map (peer_seen v)) there

    pub place-within : i < length (peers_seen v ps)
    place-within = slice_get_within (peers_seen v ps) i (peer_seen v x) seen-there

    pub peer-is : peer_at before i ≡ peer_seen v x
    peer-is = some_is (sym (slice_get-get_or (peers_seen v ps) i nobody place-within) ∙ seen-there)
      where
        some_is : {a c : Peer LaneSeen} → Some a ≡ Some c → a ≡ c
        some_is e = cc

    module _ (e : L) (ms : List LaneMove) (seen : v e ≡ after_moves ms (v x.ends)) (moved : M x.ends ms e) where
      abbrev moved_ps : List (Peer L)
      moved_ps = slice_set ps i (record x { ends = e })

      pub peers-are : peers_seen v moved_ps ≡ map (moved_peer (at_peer x.number ms)) (peers_seen v ps)
      peers-are = one-seen v M m-none x.number ms ps i x e sound.peers.rising there refl seen

      pub ends-moved : AllMoved M (ends_of ps) (map (at_peer x.number ms) (numbers_of (peers_seen v ps))) (ends_of moved_ps)
      ends-moved = one-moved v M m-none x.number ms ps i x e sound.peers.rising there refl moved

      same_maps : (f g : ℕ → List LaneMove) → ((n : ℕ) → f n ≡ g n) → (ns : List ℕ) → map f ns ≡ map g ns
      same_maps f g same [] = refl
      same_maps f g same (n ∷ ns) = ap (λ z. z ∷ map f ns) (same n) ∙ ap (λ zs. g n ∷ zs) (same_maps f g same ns)

      -- steps with just these moves at the peer
      pub doing-by : (steps : List Step) (ds : ℕ → List Deed) (new : Holding L) → ((n : ℕ) → all_moves steps n ≡ at_peer x.number ms n) → new.parts ≡ done_all steps before → new.ends ≡ ends_of moved_ps → AllMayDo (state_of before) (ds x.number)
          → state_of (done_all steps before) ≡ after_deeds (state_of before) (ds x.number) → ids_in new.parts ≡ ids_in before → new.parts.records.lent ≡ r.lent → Doing M (peer_at before i).number (ds (peer_at before i).number) ms (holding_in v b r q t ps) new
      doing-by steps ds new moves after ends may state ids packets =
          let did : Did M steps (holding_in v b r q t ps) new = record {
            parts = after;
            moved = subst (λ es. AllMoved M (ends_of ps) (map (all_moves steps) (numbers_of (peers_seen v ps))) es) (sym ends) (subst (λ zs. AllMoved M (ends_of ps) zs (ends_of moved_ps)) (sym (same_maps (all_moves steps) (at_peer x.number ms) moves (numbers_of (peers_seen v ps)))) ends-moved);
          } in
          subst (λ n. Doing M n (ds n) ms (holding_in v b r q t ps) new) (sym (ap (λ (y : Peer LaneSeen). y.number) peer-is))
          (record { steps = steps; did = did; moves_are = moves; may = may; state = ap state_of after ∙ state; ids = ids; packets = packets })

-- the peer that is read at a place is there
pub there-read : {L : Type 0} (v : L → LaneSeen) (b : Book) (r : Records) (q : Requests) (t : endpoint_table.Table) (ps : List (Peer L)) (i : ℕ) (x : Peer L) → i < length (parts_in v b r q t ps).peers → x ≡ slice_index_or ps i x → slice_get ps i ≡ Some x
there-read v b r q t ps i x within value = slice_get-read ps i x (let long = length-map ps (peer_seen v) in omega (arith, within, long)) value

-- ---- how many are held, and how many peers there are

pub held-out : (p : Parts) → Sound p → (i : ℕ) (x : Peer LaneSeen) → slice_get p.peers i ≡ Some x → held_from x.number (state_of p) ≡ length x.ends.out
held-out p sound i x there =
    let queued = queued-is plain p.book p.records p.requests p.table p.peers x.number in
    let lent = lent-is plain p.book p.records p.requests p.table p.peers x.number in
    let all = count-three plain p.book p.records p.requests p.table p.peers sound x.number in
    let held = counts.held-out plain p.book p.records p.requests p.table p.peers sound x.number i x there refl in
    omega (arith, queued, lent, all, held)

few_rising : (k : ℕ) (ns : List ℕ) → k ≤ 8 → AllByRecursion (λ n. n ≤ 7) ns → AllByRecursion (λ n. k ≤ n) ns → AreRising ns → k + length ns ≤ 8
few_rising k [] le few above rising = omega arith
few_rising k (n ∷ ns) le few above rising =
    let most : n ≤ 7 = few.0 in
    let least : k ≤ n = above.0 in
    let rest = few_rising (suc n) ns (omega arith) few.1 (All-from (λ m. n < m) (λ m. suc n ≤ m) (λ m lt. omega (arith, lt)) ns rising.0) rising.1 in
    omega (arith, most, least, rest)

all_least : (ns : List ℕ) → AllByRecursion (λ n. 0 ≤ n) ns
all_least [] = tt
all_least (n ∷ ns) = (omega arith, all_least ns)

pub peers-few : (p : Parts) → Sound p → length p.peers ≤ 8
peers-few p sound =
    let few = few_rising 0 (numbers_of p.peers) (omega arith) sound.peers.few (all_least (numbers_of p.peers)) sound.peers.rising in
    omega (arith, few, length-map p.peers (λ (x : Peer LaneSeen). x.number))
