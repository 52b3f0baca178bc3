-- A turn whose visits are those that are due is allowed, in a state of a run; and an idle turn changes nothing.
use Rattle.std.proofs.Common.{◌≡◌, ℕ, ◌+◌, ◌^◌, ◌<◌, ◌≤◌, Bool, true, false, cond, List, [], ◌∷◌, ◌++◌, length, map, Option, Some, None, option_map, refl, sym, ap, ap₂, subst, ◌∙◌, inl, inr, arith, eq-eqb, append_assoc}
use Rattle.std.specs.Prelude.{find, unwrap_or, ◌==◌, ◌||◌}
use Rattle.std.specs.List.{AllByRecursion, list_any}
use Rattle.std.proofs.lemmas.Bool.Decides.{eqb_tells}
use Rattle.board_model.specs.Lists.{changed_first}
use Rattle.board_model.specs.Journal.{Visit}
use Rattle.board_model.specs.State.{DomainState, Peer, is_numbered, peer_of, held_from}
use Rattle.board_model.specs.DomainCall.{DomainCall}
use Rattle.board_model.specs.CallChanges.{effect}
use Rattle.board_model.specs.Turn.{nameless, visit_deeds, after_visit, IsVisit, AreVisits, IsTurn, after_turn}
use Rattle.board_model.specs.Unjoined.{visit_in}
use Rattle.board_model.proofs.StateEnds.{Ends}
use Rattle.board_model.proofs.DeedJoins.{call-ends, deeds-ends, deeds-numbers}
use Rattle.board_model.proofs.LanePeers.{peer_found}
use Rattle.board_model.proofs.LaneRuns.{call_holds, looks_hold}
use Rattle.board_model.proofs.LaneTakes.{takes_count}
use Rattle.board_model.proofs.VisitLooks.{after_looks, visit-after, visit-words}
use Rattle.board_model.proofs.WholePeers.{size_at, shown_at, takes_size, takes_shown, call_size, call_numbers, call_shown, looks_size, looks_other}
use Rattle.board_model.proofs.WholeLanes.{shown_own}
use Rattle.report_text.specs.StepPass.{due_at, due_visit, due_visits}
use Rattle.report_text.proofs.VisitsDue.{due_is_allowed}

pub cons-parts : {A : Type 0} (x y : A) (xs ys : List A) → x ∷ xs ≡ y ∷ ys → (x ≡ y) × (xs ≡ ys)
cons-parts x y xs ys e = (cc, cc)

-- ---- what holds in each state of a run: no more of a lane's buffers are held and shown than it has

pub record Sound (peers : List ℕ) (s : DomainState) : Type 0 where
  pub numbers : map (λ p. p.number) s.peers ≡ peers
  pub ends : Ends s
  pub room : (n size : ℕ) → size_at s n ≡ Some size → shown_at s n + held_from n s ≤ size
  pub small : (n size : ℕ) → size_at s n ≡ Some size → size < 2 ^ 32

-- ---- a visit keeps it

visit_size : (s : DomainState) (v : Visit) (n : ℕ) → size_at (after_visit s v) n ≡ size_at s n
visit_size s v n = ap (λ t. size_at t n) (visit-after s v) ∙ takes_size (after_looks s v) v.peer v.takes n ∙ looks_size s v n

own_room : (s : DomainState) (v : Visit) (n size : ℕ) → IsVisit s v → v.peer ≡ n → size_at s n ≡ Some size → shown_at (after_visit s v) n + held_from n (after_visit s v) ≤ size
own_room s v n size h same sized =
    let words = visit-words s v h.may in
    let at_peer : size_at s n ≡ Some h.at.size = ap (λ k. size_at s k) (sym same) ∙ ap (option_map (λ p. p.size)) h.known in
    let fits : Some size ≡ Some h.at.size = sym sized ∙ at_peer in
    let is : size ≡ h.at.size = cc in
    omega (
      arith,
      is,
      h.see_fits,
      h.takes_first,
      ap (λ k. held_from k s) same,
      ap (λ t. shown_at t n) (visit-after s v),
      takes_shown (after_looks s v) v.peer v.takes n true (eq-eqb v.peer n same),
      shown_own s v n size same sized,
      ap (held_from n) (visit-after s v),
      takes_count n (after_looks s v) v.peer nameless v.takes words,
      ap (λ b. cond b (length v.takes) 0) (eq-eqb v.peer n same),
      looks_hold n s v,
    )

other_room : (s : DomainState) (v : Visit) (n size : ℕ) → IsVisit s v → (v.peer == n) ≡ false → (v.peer ≡ n → ⊥) → shown_at s n + held_from n s ≤ size → shown_at (after_visit s v) n + held_from n (after_visit s v) ≤ size
other_room s v n size h test differ room =
    let words = visit-words s v h.may in
    omega (
      arith,
      room,
      ap (λ t. shown_at t n) (visit-after s v),
      takes_shown (after_looks s v) v.peer v.takes n false test,
      ap (λ (o : Option Peer). unwrap_or (option_map (λ p. p.shown) o) 0) (looks_other s v n differ),
      ap (held_from n) (visit-after s v),
      takes_count n (after_looks s v) v.peer nameless v.takes words,
      ap (λ b. cond b (length v.takes) 0) test,
      looks_hold n s v,
    )

pub sound-visit : (peers : List ℕ) (s : DomainState) (v : Visit) → Sound peers s → IsVisit s v → Sound peers (after_visit s v)
sound-visit peers s v h allowed = record {
  numbers = deeds-numbers s (visit_deeds nameless v) ∙ h.numbers;
  ends = deeds-ends s (visit_deeds nameless v) h.ends;
  room = λ n size sized.
      let before : size_at s n ≡ Some size = sym (visit_size s v n) ∙ sized in
      elim (eqb_tells v.peer n) [
        | inl same ↦ own_room s v n size allowed same.1 before
        | inr differ ↦ other_room s v n size allowed differ.0 differ.1 (h.room n size before)
      ];
  small = λ n size sized. h.small n size (sym (visit_size s v n) ∙ sized);
}

pub sound-call : (peers : List ℕ) (s : DomainState) (node : ℕ) (call : DomainCall) → Sound peers s → Sound peers (effect s node call)
sound-call peers s node call h = record {
  numbers = call_numbers s node call ∙ h.numbers;
  ends = call-ends s node call h.ends;
  room = λ n size sized. omega (arith, h.room n size (sym (call_size s node call n) ∙ sized), call_shown s node n call, call_holds n s h.ends node call);
  small = λ n size sized. h.small n size (sym (call_size s node call n) ∙ sized);
}

-- ---- a turn

abbrev pub IsKnown : List ℕ → ℕ → Type 0
IsKnown peers n = list_any (λ m. m == n) peers ≡ true

known-found : (n : ℕ) (ps : List Peer) → list_any (λ m. m == n) (map (λ p. p.number) ps) ≡ true → (p : Peer) × (find (is_numbered n) ps ≡ Some p)
known-found n [] e = absurd cc
known-found n (p ∷ ps) e = go (p.number == n) e (λ more. known-found n ps more)
  where
    go : (b : Bool) → (b || list_any (λ m. m == n) (map (λ p. p.number) ps)) ≡ true → (list_any (λ m. m == n) (map (λ p. p.number) ps) ≡ true → (q : Peer) × (find (is_numbered n) ps ≡ Some q)) → (q : Peer) × (cond b (Some p) (find (is_numbered n) ps) ≡ Some q)
    go true e rest = (p, refl)
    go false e rest = rest e

pub known-peer : (peers : List ℕ) (s : DomainState) (n : ℕ) → Sound peers s → IsKnown peers n → (p : Peer) × (peer_of s n ≡ Some p)
known-peer peers s n h known =
    let found = known-found n s.peers (ap (list_any (λ m. m == n)) h.numbers ∙ known) in
    (found.0, peer_found s n ∙ found.1)

visit-allowed : (peers : List ℕ) (s : DomainState) (v : Visit) → Sound peers s → IsKnown peers v.peer → IsVisit s (due_visit s v)
visit-allowed peers s v h known =
    let at = known-peer peers s v.peer h known in
    let room : shown_at s v.peer + held_from v.peer s ≤ at.0.size = h.room v.peer at.0.size (ap (option_map (λ p. p.size)) at.1) in
    due_is_allowed s v at.0 at.1 (omega (arith, room, ap (λ (o : Option Peer). unwrap_or (option_map (λ p. p.shown) o) 0) at.1))

pub visits-allowed : (peers : List ℕ) (s : DomainState) (vs : List Visit) → Sound peers s → AllByRecursion (λ v. IsKnown peers v.peer) vs → AreVisits s (due_visits s vs) × Sound peers (after_turn s (due_visits s vs))
visits-allowed peers s [] h known = (tt, h)
visits-allowed peers s (v ∷ vs) h known =
    let one = visit-allowed peers s v h known.0 in
    let rest = visits-allowed peers (after_visit s (due_visit s v)) vs (sound-visit peers s (due_visit s v) h one) known.1 in
    ((one, rest.0), rest.1)

due-peer : (s : DomainState) (v : Visit) → (due_visit s v).peer ≡ v.peer
due-peer s v = go (peer_of s v.peer)
  where
    go : (o : Option Peer) → (due_at s v o).peer ≡ v.peer
    go None = refl
    go (Some p) = refl

pub due-peers : (s : DomainState) (vs : List Visit) → map (λ v. v.peer) (due_visits s vs) ≡ map (λ v. v.peer) vs
due-peers s [] = refl
due-peers s (v ∷ vs) = ap₂ (λ (n : ℕ) (ns : List ℕ). n ∷ ns) (due-peer s v) (due-peers (after_visit s (due_visit s v)) vs)

-- each of the peers is known
pub all-known : (peers : List ℕ) → AllByRecursion (IsKnown peers) peers
all-known peers = go [] peers refl
  where
    found : (front : List ℕ) (n : ℕ) (back : List ℕ) → list_any (λ m. m == n) (front ++ n ∷ back) ≡ true
    found [] n back = ap (λ b. b || list_any (λ m. m == n) back) (eq-eqb n n refl)
    found (k ∷ ks) n back = step (k == n) (found ks n back)
      where
        step : (b : Bool) → list_any (λ m. m == n) (ks ++ n ∷ back) ≡ true → (b || list_any (λ m. m == n) (ks ++ n ∷ back)) ≡ true
        step true e = refl
        step false e = e

    go : (front back : List ℕ) → front ++ back ≡ peers → AllByRecursion (λ n. list_any (λ m. m == n) peers ≡ true) back
    go front [] e = tt
    go front (n ∷ ns) e = (ap (list_any (λ m. m == n)) (sym e) ∙ found front n ns, go (front ++ n ∷ []) ns (append_assoc front (n ∷ []) ns ∙ e))

-- what holds of each peer holds of those of the visits
pub all-peers : (P : ℕ → Type 0) (vs : List Visit) (ns : List ℕ) → map (λ v. v.peer) vs ≡ ns → AllByRecursion P ns → AllByRecursion (λ v. P v.peer) vs
all-peers P [] ns e all = tt
all-peers P (v ∷ vs) [] e all = absurd cc
all-peers P (v ∷ vs) (n ∷ ns) e all =
    let parts = cons-parts v.peer n (map (λ v. v.peer) vs) ns e in
    (subst P (sym parts.0) all.0, all-peers P vs ns parts.1 all.1)

pub turn-allowed : (peers : List ℕ) (s : DomainState) (vs : List Visit) → Sound peers s → map (λ v. v.peer) vs ≡ peers → IsTurn s (due_visits s vs) × Sound peers (after_turn s (due_visits s vs))
turn-allowed peers s vs h each =
    let are = visits-allowed peers s vs h (all-peers (IsKnown peers) vs peers each (all-known peers)) in
    (record { each_peer = due-peers s vs ∙ each ∙ sym h.numbers; allowed = are.0 }, are.1)

-- ---- an idle turn

first-same : (n : ℕ) (p : Peer) (ps : List Peer) → find (is_numbered n) ps ≡ Some p → p.shown ≡ 0 → changed_first (is_numbered n) (λ q. record q { shown = 0 }) (changed_first (is_numbered n) (λ q. record q { free = q.free + 0 }) ps) ≡ ps
first-same n p [] found none = absurd cc
first-same n p (q ∷ qs) found none = go (q.number == n) refl found (λ rest. first-same n p qs rest none)
  where
    go : (b : Bool) → (q.number == n) ≡ b → cond b (Some q) (find (is_numbered n) qs) ≡ Some p → (find (is_numbered n) qs ≡ Some p → changed_first (is_numbered n) (λ q. record q { shown = 0 }) (changed_first (is_numbered n) (λ q. record q { free = q.free + 0 }) qs) ≡ qs)
        → changed_first (is_numbered n) (λ q. record q { shown = 0 }) (cond b (record q { free = q.free + 0 } ∷ qs) (q ∷ changed_first (is_numbered n) (λ q. record q { free = q.free + 0 }) qs)) ≡ q ∷ qs
    go true is found rest =
        let same : q ≡ p = cc in
        let shown : 0 ≡ q.shown = sym (ap (λ (x : Peer). x.shown) same ∙ none) in
        let free : q.free + 0 ≡ q.free = omega arith in
        ap (λ b. cond b (record q { free = q.free + 0; shown = 0 } ∷ qs) (record q { free = q.free + 0 } ∷ changed_first (is_numbered n) (λ q. record q { shown = 0 }) qs)) is
        ∙ ap₂ (λ (x y : ℕ). record q { free = x; shown = y } ∷ qs) free shown
    go false is found rest =
        ap (λ b. cond b (record q { shown = 0 } ∷ changed_first (is_numbered n) (λ q. record q { free = q.free + 0 }) qs) (q ∷ changed_first (is_numbered n) (λ q. record q { shown = 0 }) (changed_first (is_numbered n) (λ q. record q { free = q.free + 0 }) qs))) is
        ∙ ap (λ xs. q ∷ xs) (rest found)

idle-visit : (s : DomainState) (n : ℕ) → IsVisit s (visit_in [] n) → after_visit s (visit_in [] n) ≡ s
idle-visit s n v =
    let none : v.at.shown ≡ 0 = let le = v.sees_shown in omega (arith, le) in
    ap (λ ps. record s { peers = ps }) (first-same n v.at s.peers (sym (peer_found s n) ∙ v.known) none)

pub idle-turn : (s : DomainState) (ns : List ℕ) → AreVisits s (map (visit_in []) ns) → after_turn s (map (visit_in []) ns) ≡ s
idle-turn s [] h = refl
idle-turn s (n ∷ ns) h =
    let same = idle-visit s n h.0 in
    ap (λ t. after_turn t (map (visit_in []) ns)) same ∙ idle-turn s ns (subst (λ t. AreVisits t (map (visit_in []) ns)) same h.1)
