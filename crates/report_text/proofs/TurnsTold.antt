-- A turn whose texts are those of the lines that are due is the turn that is due.
use Rattle.std.proofs.Common.{◌≡◌, ℕ, ◌^◌, ◌<◌, Bool, true, false, cond, List, [], ◌∷◌, ◌++◌, length, map, Option, Some, None, option_map, refl, sym, ap, ap₂, subst, ◌∙◌, arith, eqb-true}
use Rattle.std.specs.Prelude.{◌==◌}
use Rattle.std.specs.List.{AllByRecursion, flat_map}
use Rattle.board_model.specs.LinkedBoard.{Differ}
use Rattle.board_model.specs.Journal.{Taken, Visit, Line, back_line, put_line, see_line, take_line, idle_line, again_line, spin_line, turn_line, wait_line, call_line, looked, taken_line, visit_lines}
use Rattle.board_model.specs.State.{DomainState}
use Rattle.board_model.specs.Turn.{IsVisit, AreVisits, IsTurn, after_visit, after_turn}
use Rattle.board_model.specs.Step.{RunState}
use Rattle.board_model.specs.Unjoined.{visit_in}
use Rattle.board_model.proofs.JournalReading.{IsOfTurn}
use Rattle.board_model.proofs.JournalVisits.{visits_all, visits_back}
use Rattle.board_model.proofs.MessageAlls.{all-append}
use Rattle.report_text.specs.StepPass.{due_visits, other_than, idle_visits, idle_place}
use Rattle.report_text.proofs.TurnsDue.{Sound, sound-visit, all-peers, due-peers, turn-allowed, cons-parts, idle-turn}
use Rattle.report_text.proofs.LinesTold.{bare, IsSmall, Tell, tell-bare}

-- ---- the lines of a visit that is allowed have numbers in range

small-looked : (line : ℕ → Line) (n : ℕ) → IsSmall (line n) → AllByRecursion IsSmall (looked line n)
small-looked line n h = go (n == 0)
  where
    go : (b : Bool) → AllByRecursion IsSmall (cond b [] (line n ∷ []))
    go true = tt
    go false = (h, tt)

small-puts : (p : ℕ) (fs : List (List ℕ)) → p < 2 ^ 8 → AllByRecursion IsSmall (map (put_line p) fs)
small-puts p [] h = tt
small-puts p (f ∷ fs) h = (h, small-puts p fs h)

small-takes : (p : ℕ) (ts : List Taken) → p < 2 ^ 8 → AllByRecursion IsSmall (map (taken_line p) ts)
small-takes p [] h = tt
small-takes p (t ∷ ts) h = (h, small-takes p ts h)

small-visit : (peers : List ℕ) (s : DomainState) (v : Visit) → Sound peers s → IsVisit s v → v.peer < 2 ^ 8 → AllByRecursion IsSmall (visit_lines v)
small-visit peers s v h is few =
    let size : is.at.size < 2 ^ 32 = h.small v.peer is.at.size (ap (option_map (λ p. p.size)) is.known) in
    all-append IsSmall (looked (back_line v.peer) v.back) (map (put_line v.peer) v.owed ++ (looked (see_line v.peer) v.see ++ map (taken_line v.peer) v.takes)) (small-looked (back_line v.peer) v.back (few, omega (arith, size, is.back_fits)))
    (all-append IsSmall (map (put_line v.peer) v.owed) (looked (see_line v.peer) v.see ++ map (taken_line v.peer) v.takes) (small-puts v.peer v.owed few)
    (all-append IsSmall (looked (see_line v.peer) v.see) (map (taken_line v.peer) v.takes) (small-looked (see_line v.peer) v.see (few, omega (arith, size, is.see_fits))) (small-takes v.peer v.takes few)))

small-visits : (peers : List ℕ) (s : DomainState) (vs : List Visit) → Sound peers s → AreVisits s vs → AllByRecursion (λ v. v.peer < 2 ^ 8) vs → AllByRecursion IsSmall (flat_map visit_lines vs)
small-visits peers s [] h are few = tt
small-visits peers s (v ∷ vs) h are few =
    all-append IsSmall (visit_lines v) (flat_map visit_lines vs) (small-visit peers s v h are.0 few.0) (small-visits peers (after_visit s v) vs (sound-visit peers s v h are.0) are.1 few.1)

-- ---- lines of a turn are told exactly

bare-turn : (ls : List Line) → AllByRecursion IsOfTurn ls → map bare ls ≡ ls
bare-turn [] all = refl
bare-turn (back_line p n ∷ ls) all = ap (λ ks. back_line p n ∷ ks) (bare-turn ls all.1)
bare-turn (put_line p frame ∷ ls) all = ap (λ ks. put_line p frame ∷ ks) (bare-turn ls all.1)
bare-turn (see_line p n ∷ ls) all = ap (λ ks. see_line p n ∷ ks) (bare-turn ls all.1)
bare-turn (take_line p frame fate ∷ ls) all = ap (λ ks. take_line p frame fate ∷ ks) (bare-turn ls all.1)
bare-turn (idle_line n ∷ ls) all = absurd all.0
bare-turn (again_line word ∷ ls) all = absurd all.0
bare-turn (spin_line n word ∷ ls) all = absurd all.0
bare-turn (turn_line ∷ ls) all = absurd all.0
bare-turn (wait_line k ∷ ls) all = absurd all.0
bare-turn (call_line k a ∷ ls) all = absurd all.0

-- visits to the same peers with the same lines are the same
same-visits : (vs ws : List Visit) (ns : List ℕ) → Differ ns → map (λ v. v.peer) vs ≡ ns → map (λ v. v.peer) ws ≡ ns → flat_map visit_lines vs ≡ flat_map visit_lines ws → vs ≡ ws
same-visits vs ws ns differ p q same =
    sym (visits_back vs (subst Differ (sym p) differ))
    ∙ ap₂ (λ (ls : List Line) (ms : List ℕ). map (visit_in ls) ms) same (p ∙ sym q)
    ∙ visits_back ws (subst Differ (sym q) differ)

module _ (peers : List ℕ) (few : AllByRecursion (λ n. n < 2 ^ 8) peers) (differ : Differ peers) (s : DomainState) (h : Sound peers s) where
  due-small : (vs : List Visit) → map (λ v. v.peer) vs ≡ peers → AllByRecursion IsSmall (flat_map visit_lines (due_visits s vs))
  due-small vs each = small-visits peers s (due_visits s vs) h (turn-allowed peers s vs h each).0.allowed (all-peers (λ n. n < 2 ^ 8) (due_visits s vs) peers (due-peers s vs ∙ each) few)

  -- it tells of the visits that are due
  pub visits-told : (vs : List Visit) (ts : List (List ℕ)) → map (λ v. v.peer) vs ≡ peers → Tell ts (turn_line ∷ flat_map visit_lines vs) → other_than (turn_line ∷ flat_map visit_lines (due_visits s vs)) ts ≡ None → vs ≡ due_visits s vs
  visits-told vs ts each tell none =
      let due : List Visit = due_visits s vs in
      let all = tell-bare ts (turn_line ∷ flat_map visit_lines vs) (turn_line ∷ flat_map visit_lines due) tell none (tt, due-small vs each) in
      let lines = cons-parts turn_line turn_line (map bare (flat_map visit_lines vs)) (map bare (flat_map visit_lines due)) all in
      same-visits vs due peers differ each (due-peers s vs ∙ each) (sym (bare-turn (flat_map visit_lines vs) (visits_all vs)) ∙ lines.1 ∙ bare-turn (flat_map visit_lines due) (visits_all due))

  pub turn-told : (vs : List Visit) (ts : List (List ℕ)) → map (λ v. v.peer) vs ≡ peers → Tell ts (turn_line ∷ flat_map visit_lines vs) → other_than (turn_line ∷ flat_map visit_lines (due_visits s vs)) ts ≡ None → IsTurn s vs × Sound peers (after_turn s vs)
  turn-told vs ts each tell none = subst (λ ws. IsTurn s ws × Sound peers (after_turn s ws)) (sym (visits-told vs ts each tell none)) (turn-allowed peers s vs h each)

  -- ---- an idle turn

  idle-peers : (ns : List ℕ) → map (λ v. v.peer) (idle_visits ns) ≡ ns
  idle-peers [] = refl
  idle-peers (n ∷ ns) = ap (λ ms. n ∷ ms) (idle-peers ns)

  idle-lines : (ns : List ℕ) → flat_map visit_lines (idle_visits ns) ≡ []
  idle-lines [] = refl
  idle-lines (n ∷ ns) = idle-lines ns

  none-left : (ls : List Line) → cond {A = Option ℕ} (length ls == 0) None (Some 0) ≡ None → ls ≡ []
  none-left [] e = refl
  none-left (l ∷ ls) e = absurd (go (length (l ∷ ls) == 0) refl e)
    where
      go : (b : Bool) → (length (l ∷ ls) == 0) ≡ b → cond {A = Option ℕ} b None (Some 0) ≡ None → ⊥
      go true is e = let n = eqb-true (length (l ∷ ls)) 0 is in omega (arith, n)
      go false is e = absurd cc

  pub idle-told : (r : RunState) → r.state ≡ s → idle_place peers r ≡ None → IsTurn s (idle_visits peers) × (after_turn s (idle_visits peers) ≡ s)
  idle-told r is none =
      let due : List Visit = due_visits s (idle_visits peers) in
      let lines : flat_map visit_lines due ≡ [] = none-left (flat_map visit_lines due) (subst (λ t. cond {A = Option ℕ} (length (flat_map visit_lines (due_visits t (idle_visits peers))) == 0) None (Some 0) ≡ None) is none) in
      let same : idle_visits peers ≡ due = same-visits (idle_visits peers) due peers differ (idle-peers peers) (due-peers s (idle_visits peers) ∙ idle-peers peers) (idle-lines peers ∙ sym lines) in
      let turn : IsTurn s (idle_visits peers) = subst (IsTurn s) (sym same) (turn-allowed peers s (idle_visits peers) h (idle-peers peers)).0 in
      (turn, idle-turn s peers turn.allowed)
