-- A queue has no more items than the lanes to its domain have buffers: each item that is held came from a peer in one frame at least, and no more of a
-- lane's buffers are held than it has.
use Rattle.std.proofs.Common.{◌≡◌, ℕ, ◌+◌, ◌*◌, ◌^◌, ◌<◌, ◌≤◌, Bool, true, false, ◌||◌, cond, List, [], ◌∷◌, ◌++◌, map, length, Option, Some, None, option_map, find, length-append, refl, sym, ap, subst, arith, eqb-true, eq-eqb}
use Rattle.std.specs.Prelude.{◌==◌, sum_by}
use Rattle.std.specs.List.{AllByRecursion, flat_map, list_any}
use Rattle.std.proofs.lemmas.List.Sums.{sum_by-cons, sum_by-append}
use Rattle.mc_base.specs.Letter.{PlainLetter}
use Rattle.mc_base.specs.declared.name.Local.{Local}
use Rattle.board_model.specs.CallChanges.{effect}
use Rattle.board_model.specs.Deeds.{Deed, puts_owed, looks_ahead, calls, after_deed, after_deeds}
use Rattle.board_model.specs.DomainCall.{DomainCall}
use Rattle.board_model.specs.Journal.{agrees, Visit, Taken}
use Rattle.board_model.specs.Parts.{Came, coming_from, came_from, named_so, names_before}
use Rattle.board_model.specs.State.{Item, Endpoint, DomainState, is_at, live_at, queue_in, queue_at, queued_items, held_of, held_from}
use Rattle.board_model.specs.TakenFrames.{item_of}
use Rattle.board_model.specs.Turn.{nameless, takes_named, visit_deeds, after_visit, after_turn}
use Rattle.board_model.proofs.ItemsHeld.{Held, BringsItems, deed-holds}
use Rattle.board_model.proofs.LaneRows.{item-frames, item-peer}
use Rattle.board_model.proofs.LaneTakes.{weight, weighed-is}
use Rattle.board_model.proofs.MessageAlls.{all-append, all-found}
use Rattle.board_model.proofs.MessageLists.{get-position}
use Rattle.board_model.proofs.MessageOnce.{total, total-sum}
use Rattle.report_text.proofs.TurnsDue.{Sound, IsKnown, known-peer, all-known}

-- ---- what is held came from peers

module _ (peers : List ℕ) where
  abbrev pub CameFrom : Item → Type 0
  CameFrom i = IsKnown peers i.peer × (1 ≤ length i.frames)

  abbrev pub FromPeers : DomainState → Type 0
  FromPeers s = Held CameFrom s

  -- in whatever state a deed is done
  abbrev Brings : Deed → Type 0
  Brings d = (t : DomainState) → BringsItems CameFrom t d

  deeds-hold : (s : DomainState) (ds : List Deed) → AllByRecursion Brings ds → FromPeers s → FromPeers (after_deeds s ds)
  deeds-hold s [] brings held = held
  deeds-hold s (d ∷ ds) brings held = deeds-hold (after_deed s d) ds brings.1 (deed-holds CameFrom s d (brings.0 s) held)

  puts-bring : (peer : ℕ) (fs : List (List ℕ)) → AllByRecursion Brings (map (puts_owed peer) fs)
  puts-bring peer [] = tt
  puts-bring peer (f ∷ fs) = ((λ t. tt), puts-bring peer fs)

  came-some : (t : DomainState) (peer : ℕ) (name : Option ℕ) (frame : List ℕ) → 1 ≤ length (came_from t peer name frame).names
  came-some t peer name frame = omega (arith, length-append (names_before (coming_from t peer frame).joins (held_of t peer)) (named_so name ∷ []))

  frame-brings : (t : DomainState) (peer : ℕ) (name : Option ℕ) (frame : List ℕ) → IsKnown peers peer → (source : ℕ) (l : PlainLetter) → CameFrom (item_of peer (came_from t peer name frame) source l)
  frame-brings t peer name frame known source l =
      let came : Came = came_from t peer name frame in
      (subst (IsKnown peers) (sym (item-peer peer came source l)) known, omega (arith, came-some t peer name frame, ap length (item-frames peer came source l)))

  takes-bring : (name : ℕ → Option ℕ) (peer : ℕ) (ts : List Taken) → IsKnown peers peer → AllByRecursion Brings (takes_named name peer ts)
  takes-bring name peer [] known = tt
  takes-bring name peer (t ∷ ts) known = ((λ s source l. frame-brings s peer (name 0) t.frame known source l), takes-bring (λ k. name (k + 1)) peer ts known)

  pub visit-from : (s : DomainState) (v : Visit) → IsKnown peers v.peer → FromPeers s → FromPeers (after_visit s v)
  visit-from s v known held =
      deeds-hold s (visit_deeds nameless v)
      ((λ t. tt), all-append Brings (map (puts_owed v.peer) v.owed) (looks_ahead v.peer v.see ∷ takes_named nameless v.peer v.takes) (puts-bring v.peer v.owed) ((λ t. tt), takes-bring nameless v.peer v.takes known)) held

  pub turn-from : (s : DomainState) (vs : List Visit) → AllByRecursion (λ v. IsKnown peers v.peer) vs → FromPeers s → FromPeers (after_turn s vs)
  turn-from s [] known held = held
  turn-from s (v ∷ vs) known held = turn-from (after_visit s v) vs known.1 (visit-from s v known.0 held)

  pub effect-from : (s : DomainState) (node : ℕ) (call : DomainCall) → FromPeers s → FromPeers (effect s node call)
  effect-from s node call held = deed-holds CameFrom s (calls node call agrees) tt held

  -- ---- how many items there are

  -- an item from a peer is counted once at least
  counted-known : (i : Item) (ns : List ℕ) → 1 ≤ length i.frames → IsKnown ns i.peer → 1 ≤ total (λ n. weight n i) ns
  counted-known i [] some known = absurd cc
  counted-known i (n ∷ ns) some known = go (n == i.peer) refl known (λ more. counted-known i ns some more)
    where
      go : (b : Bool) → (n == i.peer) ≡ b → (b || list_any (λ m. m == i.peer) ns) ≡ true → (IsKnown ns i.peer → 1 ≤ total (λ m. weight m i) ns) → 1 ≤ weight n i + total (λ m. weight m i) ns
      go true is known rest = omega (arith, some, ap (λ b. cond b (length i.frames) 0) (eq-eqb i.peer n (sym (eqb-true n i.peer is))))
      go false is known rest = omega (arith, rest known)

  all-counted : (q : List Item) → AllByRecursion CameFrom q → length q ≤ total (λ n. sum_by (weight n) q) peers
  all-counted [] all = omega arith
  all-counted (i ∷ q) all =
      omega (arith, counted-known i peers all.0.1 all.0.0, all-counted q all.1, total-sum (λ n. sum_by (weight n) (i ∷ q)) (λ n. weight n i) (λ n. sum_by (weight n) q) (λ n. sum_by-cons (weight n) i q) peers)

  -- a queue among queues
  found-counted : (w : Item → ℕ) (p : Endpoint → Bool) (es : List Endpoint) (e : Endpoint) → find p es ≡ Some e → sum_by w e.queue ≤ sum_by w (flat_map (λ x. x.queue) es)
  found-counted w p [] e found = absurd cc
  found-counted w p (x ∷ es) e found = go (p x) found (λ more. found-counted w p es e more)
    where
      go : (b : Bool) → cond b (Some x) (find p es) ≡ Some e → (find p es ≡ Some e → sum_by w e.queue ≤ sum_by w (flat_map (λ y. y.queue) es)) → sum_by w e.queue ≤ sum_by w (x.queue ++ flat_map (λ y. y.queue) es)
      go true is rest =
          let same : x ≡ e = cc in
          omega (arith, ap (λ (y : Endpoint). sum_by w y.queue) same, sum_by-append w x.queue (flat_map (λ (y : Endpoint). y.queue) es))
      go false is rest = omega (arith, rest is, sum_by-append w x.queue (flat_map (λ (y : Endpoint). y.queue) es))

  total-below : (f : ℕ → ℕ) (most : ℕ) (ns : List ℕ) → AllByRecursion (λ n. f n ≤ most) ns → total f ns ≤ length ns * most
  total-below f most [] all = omega arith
  total-below f most (n ∷ ns) all = omega (arith, all.0, total-below f most ns all.1)

  module _ (s : DomainState) (h : Sound peers s) (held : FromPeers s) (few : length peers ≤ 8) where
    -- no more from a peer than its lane has buffers
    from-few : (q : List Item) → ((n : ℕ) → sum_by (weight n) q ≤ held_from n s) → (n : ℕ) → IsKnown peers n → sum_by (weight n) q ≤ 2 ^ 32
    from-few q within n known =
        let at = known-peer peers s n h known in
        let sized = ap (option_map (λ p. p.size)) at.1 in
        omega (arith, within n, h.room n at.0.size sized, h.small n at.0.size sized)

    all-from : (q : List Item) → ((n : ℕ) → sum_by (weight n) q ≤ held_from n s) → (ns : List ℕ) → AllByRecursion (IsKnown peers) ns → AllByRecursion (λ n. sum_by (weight n) q ≤ 2 ^ 32) ns
    all-from q within [] known = tt
    all-from q within (n ∷ ns) known = (from-few q within n known.0, all-from q within ns known.1)

    end-short : (at : Local) (o : Option Endpoint) → live_at s at ≡ o → length (queue_in o) < 2 ^ 64
    end-short at None found = omega arith
    end-short at (Some e) found =
        let from = all-found (λ (x : Endpoint). AllByRecursion CameFrom x.queue) (is_at at) s.endpoints e held.queued found in
        let within : (n : ℕ) → sum_by (weight n) e.queue ≤ held_from n s = λ n. omega (arith, found-counted (weight n) (is_at at) s.endpoints e found, weighed-is n (queued_items s)) in
        omega (arith, few, all-counted e.queue from, total-below (λ n. sum_by (weight n) e.queue) (2 ^ 32) peers (all-from e.queue within peers (all-known peers)))

    pub queue-short : (at : Local) → length (queue_at s at) < 2 ^ 64
    queue-short at = subst (λ o. length (queue_in o) < 2 ^ 64) (sym (get-position (is_at at) s.endpoints)) (end-short at (live_at s at) refl)
