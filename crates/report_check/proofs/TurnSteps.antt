-- The visits of a turn, one after the other.
use Rattle.std.proofs.Common.{◌≡◌, ℕ, Bool, true, false, cond, eq-eqb, append_assoc, List, [], ◌∷◌, ◌++◌, map, find, Option, None, Some, IfOk, Result, Ok, Err, refl, sym, ap, ◌∙◌, subst}
use Rattle.std.specs.Prelude.{option_map, ◌==◌}
use Rattle.std.specs.List.{AllByRecursion, flat_map}
use Rattle.board_model.specs.Journal.{Visit, visit_lines}
use Rattle.board_model.specs.State.{DomainState, Peer, peer_of, is_numbered}
use Rattle.board_model.specs.Deeds.{Deed, happens_by, after_deed, after_deeds}
use Rattle.board_model.specs.Turn.{nameless, visit_deeds, after_visit, after_turn}
use Rattle.board_model.proofs.StateEnds.{numbers-all}
use Rattle.board_model.proofs.LanePeers.{peer_found}
use Rattle.report_check.specs.Meeting.{LinesLeft}
use Rattle.report_text.specs.StepPass.{due_visit, due_visits}
use Rattle.board_model.proofs.DeedJoins.{after-join}
use Rattle.board_model.proofs.WholePeers.{deeds_size}
use Rattle.report_check.specs.NamedStates.{GoesOn, plain, turn_deeds}
use Rattle.report_check.specs.declared.named_state.NamedState.{NamedState}
use Rattle.report_check.specs.Doing.{AreVisited, HasPeers, VisitDone}
use Rattle.report_check.proofs.NamedLemmas.{goes-nothing, goes-then}
use Rattle.report_check.proofs.MeetingLemmas.{meets-nothing, meets-then, meets-missed}

pub visited-none : (s : NamedState) (l : LinesLeft) → AreVisited s s l l [] true
visited-none s l = record { lines = meets-nothing l; state = λ e. goes-nothing s }

pub visit-missed : (s t : NamedState) (l m : LinesLeft) (v : Visit) (vs : List Visit) → VisitDone s t l m (due_visit (plain s) v) false → AreVisited s t l m (due_visits (plain s) (v ∷ vs)) false
visit-missed s t l m v vs missed = record {
  lines = meets-missed l m (visit_lines (due_visit (plain s) v)) (flat_map visit_lines (due_visits (after_visit (plain s) (due_visit (plain s) v)) vs)) missed.lines;
  state = λ e. absurd cc;
}

pub visit-then : {E : Type 0} (s u t : NamedState) (l m n : LinesLeft) (v : Visit) (vs : List Visit) (r : Result Bool E) → VisitDone s u l m (due_visit (plain s) v) true → IfOk r (λ is. AreVisited u t m n (due_visits (plain u) vs) is) → IfOk r (λ is. AreVisited s t l n (due_visits (plain s) (v ∷ vs)) is)
visit-then s u t l m n v vs (Err e) first rest = tt
visit-then s u t l m n v vs (Ok is) first rest =
    let d : Visit = due_visit (plain s) v in
    let others : List Visit = due_visits (after_visit (plain s) d) vs in
    let goes : GoesOn s u (visit_deeds nameless d) = first.state refl in
    let then : AreVisited u t m n others is = subst (λ x. AreVisited u t m n (due_visits x vs) is) goes.plain rest in
    record {
      lines = meets-then l m n (visit_lines d) (flat_map visit_lines others) is first.lines then.lines;
      state = λ e. goes-then s u t (visit_deeds nameless d) (turn_deeds others) goes (then.state e);
    }

-- the deeds of a turn lead where the turn does
pub turn-made : (s : DomainState) (vs : List Visit) → after_deeds s (turn_deeds vs) ≡ after_turn s vs
turn-made s [] = refl
turn-made s (v ∷ vs) = after-join s (visit_deeds nameless v) (turn_deeds vs) ∙ turn-made (after_visit s v) vs

-- ---- peers stay

still-there : (o q : Option Peer) (p : Peer) → option_map (λ x. x.size) q ≡ option_map (λ x. x.size) o → o ≡ Some p → (x : Peer) × (q ≡ Some x)
still-there o None p e is = absurd (absent (e ∙ ap (option_map (λ x. x.size)) is))
  where
    absent : None ≡ Some p.size → ⊥
    absent e = absurd cc
still-there o (Some x) p e is = (x, refl)

pub peers-stay : (s : DomainState) (ds : List Deed) (ns : List ℕ) → HasPeers s ns → HasPeers (after_deeds s ds) ns
peers-stay s ds [] has = tt
peers-stay s ds (n ∷ ns) has = (
  still-there (peer_of s n) (peer_of (after_deeds s ds) n) has.0.0
      (ap (option_map (λ x. x.size)) (peer_found (after_deeds s ds) n) ∙ (deeds_size s ds n ∙ ap (option_map (λ x. x.size)) (sym (peer_found s n))))
      has.0.1,
  peers-stay s ds ns has.1,
)

-- ---- the peers of a state

abbrev numbers : DomainState → List ℕ
numbers s = map (λ p. p.number) s.peers

numbers-deeds : (s : DomainState) (ds : List Deed) → numbers (after_deeds s ds) ≡ numbers s
numbers-deeds s [] = refl
numbers-deeds s (d ∷ ds) = numbers-deeds (after_deed s d) ds ∙ numbers-all s (happens_by s d)

-- a turn leaves them
pub numbers-turn : (s : DomainState) (vs : List Visit) → map (λ p. p.number) (after_turn s vs).peers ≡ map (λ p. p.number) s.peers
numbers-turn s [] = refl
numbers-turn s (v ∷ vs) = numbers-turn (after_visit s v) vs ∙ numbers-deeds s (visit_deeds nameless v)

-- and each of their numbers is that of one
first-found : (n : ℕ) (ps qs : List Peer) → (p : Peer) × (find (is_numbered n) (ps ++ qs) ≡ Some p) → (q : Peer) → (r : Peer) × (find (is_numbered n) (q ∷ (ps ++ qs)) ≡ Some r)
first-found n ps qs has q = go (q.number == n)
  where
    go : (b : Bool) → (r : Peer) × (cond b (Some q) (find (is_numbered n) (ps ++ qs)) ≡ Some r)
    go true = (q, refl)
    go false = has

found-behind : (ps qs : List Peer) (n : ℕ) → (p : Peer) × (find (is_numbered n) qs ≡ Some p) → (p : Peer) × (find (is_numbered n) (ps ++ qs) ≡ Some p)
found-behind [] qs n has = has
found-behind (q ∷ ps) qs n has = first-found n ps qs (found-behind ps qs n has) q

all-found : (ps qs : List Peer) → AllByRecursion (λ n. (p : Peer) × (find (is_numbered n) (ps ++ qs) ≡ Some p)) (map (λ p. p.number) qs)
all-found ps [] = tt
all-found ps (q ∷ qs) = (
  found-behind ps (q ∷ qs) q.number (q, ap (λ b. cond b (Some q) (find (is_numbered q.number) qs)) (eq-eqb q.number q.number refl)),
  subst (λ all. AllByRecursion (λ n. (p : Peer) × (find (is_numbered n) all ≡ Some p)) (map (λ p. p.number) qs)) (append_assoc ps (q ∷ []) qs) (all-found (ps ++ q ∷ []) qs),
)

pub peers-there : (s : DomainState) (ns : List ℕ) → map (λ p. p.number) s.peers ≡ ns → HasPeers s ns
peers-there s ns e = subst (HasPeers s) e (each (map (λ p. p.number) s.peers) (all-found [] s.peers))
  where
    each : (ms : List ℕ) → AllByRecursion (λ n. (p : Peer) × (find (is_numbered n) s.peers ≡ Some p)) ms → HasPeers s ms
    each [] all = tt
    each (m ∷ ms) all = ((all.0.0, peer_found s m ∙ all.0.1), each ms all.1)
