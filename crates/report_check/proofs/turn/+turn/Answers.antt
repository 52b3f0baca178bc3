use Rattle.std.proofs.Common.{◌≡◌, ◌≤◌, ◌<◌, ℕ, ◌-◌, Bool, true, false, List, [], ◌∷◌, IfOk, Result, Some, length, get_or, map, take, drop, refl, sym, subst, arith}
use Rattle.std.specs.List.{AllByRecursion}
use Rattle.board_model.specs.Journal.{Line}
use Rattle.board_model.specs.State.{Peer, peer_of}
use Rattle.board_model.specs.Turn.{nameless, visit_deeds}
use Rattle.board_model.specs.Unjoined.{visit_in}
use Rattle.report_text.specs.StepPass.{due_visit, due_visits}
use Rattle.report_text.proofs.LeftLemmas.{whole}
use Rattle.report_check.specs.Meeting.{LinesLeft}
use Rattle.report_check.specs.NamedStates.{plain}
use Rattle.report_check.specs.declared.named_state.NamedState.{NamedState}
use Rattle.report_check.specs.Doing.{AreVisited, HasPeers, VisitDone}
use Rattle.report_check.specs.ToldTurns.{IsToldPeer}
use Rattle.report_check.specs.declared.told_turn.ToldPeer.{ToldPeer}
use Rattle.report_check.proofs.TurnSteps.{visit-missed, visit-then, peers-stay}
use Rattle.report_check.proofs.turn.+turn.Goals as goal

module _ (ls : List Line) (s u : NamedState) (l m : LinesLeft) (peers : List ℕ) (d : ℕ) (some : 1 ≤ length peers) (has : HasPeers (plain s) peers) where
  abbrev first : ℕ
  first = get_or peers 0 d

  abbrev others : List ℕ
  others = take (length peers - 1) (drop 1 peers)

  by-missed : (t : NamedState) → ((p : Peer) → peer_of (plain s) first ≡ Some p → VisitDone s t l m (due_visit (plain s) (visit_in ls first)) false) → AreVisited s t l m (due_visits (plain s) (map (visit_in ls) peers)) false
  by-missed t missed = go peers some has missed
    where
      go : (ns : List ℕ) → 1 ≤ length ns → HasPeers (plain s) ns → ((p : Peer) → peer_of (plain s) (get_or ns 0 d) ≡ Some p → VisitDone s t l m (due_visit (plain s) (visit_in ls (get_or ns 0 d))) false) → AreVisited s t l m (due_visits (plain s) (map (visit_in ls) ns)) false
      go [] some has missed = absurd (omega (arith, some))
      go (n ∷ ns) some has missed = visit-missed s t l m (visit_in ls n) (map (visit_in ls) ns) (missed has.0.0 has.0.1)

  by-first : {E : Type 0} (t : NamedState) (n : LinesLeft) (r : Result Bool E) → ((p : Peer) → peer_of (plain s) first ≡ Some p → VisitDone s u l m (due_visit (plain s) (visit_in ls first)) true) → (HasPeers (plain u) others → IfOk r (λ is. AreVisited u t m n (due_visits (plain u) (map (visit_in ls) others)) is)) → IfOk r (λ is. AreVisited s t l n (due_visits (plain s) (map (visit_in ls) peers)) is)
  by-first {E = E} t n r visited rest = go peers some has visited rest
    where
      go : (ns : List ℕ) → 1 ≤ length ns → HasPeers (plain s) ns → ((p : Peer) → peer_of (plain s) (get_or ns 0 d) ≡ Some p → VisitDone s u l m (due_visit (plain s) (visit_in ls (get_or ns 0 d))) true) → (HasPeers (plain u) (take (length ns - 1) (drop 1 ns)) → IfOk r (λ is. AreVisited u t m n (due_visits (plain u) (map (visit_in ls) (take (length ns - 1) (drop 1 ns)))) is)) → IfOk r (λ is. AreVisited s t l n (due_visits (plain s) (map (visit_in ls) ns)) is)
      go [] some has visited rest = absurd (omega (arith, some))
      go (k ∷ ks) some has visited rest =
          let all : take (length (k ∷ ks) - 1) ks ≡ ks = whole (length (k ∷ ks) - 1) ks (omega arith) in
          let done : VisitDone s u l m (due_visit (plain s) (visit_in ls k)) true = visited has.0.0 has.0.1 in
          let stay : HasPeers (plain u) ks = subst (λ x. HasPeers x ks) (sym (done.state refl).plain) (peers-stay (plain s) (visit_deeds nameless (due_visit (plain s) (visit_in ls k))) ks has.1) in
          visit-then s u t l m n (visit_in ls k) (map (visit_in ls) ks) r done
          (subst (λ js. HasPeers (plain u) js → IfOk r (λ is. AreVisited u t m n (due_visits (plain u) (map (visit_in ls) js)) is)) all rest stay)

first-within : (ns : List ℕ) → 1 ≤ length ns → AllByRecursion (λ n. n < 8) ns → get_or ns 0 0 < 8
first-within [] some all = absurd (omega (arith, some))
first-within (n ∷ ns) some all = all.0

at-number : (told : List ToldPeer) (peers : List ℕ) (n : ℕ) (ls : List Line) → ((k : ℕ) (other : ToldPeer) → k < 8 → IsToldPeer (get_or told k other) (visit_in ls k)) → n ≡ get_or peers 0 0 → 1 ≤ length peers → AllByRecursion (λ k. k < 8) peers → (d : ToldPeer) → IsToldPeer (get_or told n d) (visit_in ls (get_or peers 0 0))
at-number told peers n ls all is some within d =
    subst (λ k. IsToldPeer (get_or told k d) (visit_in ls (get_or peers 0 0))) (sym is) (all (get_or peers 0 0) d (first-within peers some within))

pub returns-then-not-branch : goal.returns-then-not-branch
returns-then-not-branch t c = λ ls told has.
    by-missed ls c.args.state.now c.visit.new.state c.args.lines.now c.visit.new.lines c.args.peers.now 0 (omega (arith, c.in-len1-up.len_at_least)) has c.visit.new.state
    (λ p known. subst (λ is. VisitDone c.args.state.now c.visit.new.state c.args.lines.now c.visit.new.lines (due_visit (plain c.args.state.now) (visit_in ls (get_or c.args.peers.now 0 0))) is) c.if-not-branch.true (c.in_ok-visit.ensures ls p (at-number c.args.told.now.peers c.args.peers.now c.from.result ls told c.from.ensures (omega (arith, c.in-len1-up.len_at_least)) c.requires.peers _) known))

pub returns : goal.returns
returns t c = λ ls told has.
    by-first ls c.args.state.now c.visit.new.state c.args.lines.now c.visit.new.lines c.args.peers.now 0 (omega (arith, c.in-len1-up.len_at_least)) has c.turn.new.state c.turn.new.lines c.turn.result
    (λ p known. subst (λ is. VisitDone c.args.state.now c.visit.new.state c.args.lines.now c.visit.new.lines (due_visit (plain c.args.state.now) (visit_in ls (get_or c.args.peers.now 0 0))) is) c.if-not-branch.false (c.in_ok-visit.ensures ls p (at-number c.args.told.now.peers c.args.peers.now c.from.result ls told c.from.ensures (omega (arith, c.in-len1-up.len_at_least)) c.requires.peers _) known))
    (λ stay. c.turn.ensures ls told stay)
