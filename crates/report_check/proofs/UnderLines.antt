-- Lines parted behind those at their front that stand under the line before them.
use Rattle.std.proofs.Common.{◌≡◌, ℕ, Bool, true, false, cond, List, [], ◌∷◌, ◌++◌, map, refl, sym, ap, ap₂, subst, ◌∙◌}
use Rattle.std.specs.List.{AllByRecursion, flat_map}
use Rattle.board_model.specs.declared.scenario.CallLine.{CallLine}
use Rattle.board_model.specs.Journal.{Visit, Line, idle_line, again_line, spin_line, turn_line, back_line, put_line, see_line, take_line, wait_line, call_line, visit_lines}
use Rattle.board_model.proofs.JournalReading.{IsOfTurn}
use Rattle.board_model.proofs.JournalVisits.{visits_all}
use Rattle.report_text.specs.JournalOrder.{puts_of_line, puts_claimed}
use Rattle.report_text.specs.JournalRead.{parts_from}
use Rattle.report_text.specs.Outlines.{outline_of}
use Rattle.report_text.specs.TextPass.{puts_of_script}
use Rattle.report_text.specs.TurnOrder.{is_under, under_lines}
use Rattle.report_check.proofs.PartFronts.{AreUnder, head_behind, head_due}

-- lines of which the first stands under none
abbrev pub IsHeaded : List Line → Type 0
IsHeaded [] = Unit {0}
IsHeaded (l ∷ ls) = is_under (outline_of l) ≡ false

pub under-append : (xs ys : List Line) → AreUnder xs → AreUnder ys → AreUnder (xs ++ ys)
under-append [] ys a b = b
under-append (x ∷ xs) ys a b = (a.0, under-append xs ys a.1 b)

of-turn : (ls : List Line) → AllByRecursion IsOfTurn ls → AreUnder ls
of-turn [] all = tt
of-turn (idle_line n ∷ ls) all = absurd all.0
of-turn (again_line word ∷ ls) all = absurd all.0
of-turn (spin_line n word ∷ ls) all = absurd all.0
of-turn (turn_line ∷ ls) all = absurd all.0
of-turn (back_line p n ∷ ls) all = (refl, of-turn ls all.1)
of-turn (put_line p frame ∷ ls) all = (refl, of-turn ls all.1)
of-turn (see_line p n ∷ ls) all = (refl, of-turn ls all.1)
of-turn (take_line p frame fate ∷ ls) all = (refl, of-turn ls all.1)
of-turn (wait_line k ∷ ls) all = absurd all.0
of-turn (call_line k a ∷ ls) all = absurd all.0

pub visits-under : (vs : List Visit) → AreUnder (flat_map visit_lines vs)
visits-under vs = of-turn (flat_map visit_lines vs) (visits_all vs)

-- ---- lines are parted in one way

pub first-same : (l k : Line) (ls ks : List Line) → l ∷ ls ≡ k ∷ ks → l ≡ k
first-same l k ls ks e = cc

pub rest-same : (l k : Line) (ls ks : List Line) → l ∷ ls ≡ k ∷ ks → ls ≡ ks
rest-same l k ls ks e = cc

pub parted-once : (us vs ms ns : List Line) → AreUnder us → AreUnder vs → IsHeaded ms → IsHeaded ns → us ++ ms ≡ vs ++ ns → (us ≡ vs) × (ms ≡ ns)
parted-once [] [] ms ns a b c d e = (refl, e)
parted-once [] (v ∷ vs) ms ns a b c d e = let other : is_under (outline_of v) ≡ false = subst IsHeaded e c in let no : true ≡ false = sym b.0 ∙ other in absurd cc
parted-once (u ∷ us) [] ms ns a b c d e = let other : is_under (outline_of u) ≡ false = subst IsHeaded (sym e) d in let no : true ≡ false = sym a.0 ∙ other in absurd cc
parted-once (u ∷ us) (v ∷ vs) ms ns a b c d e =
    let rest = parted-once us vs ms ns a.1 b.1 c d (rest-same u v (us ++ ms) (vs ++ ns) e) in
    (ap₂ (λ (x : Line) (xs : List Line). x ∷ xs) (first-same u v (us ++ ms) (vs ++ ns) e) rest.0, rest.1)

-- ---- and what the line behind them claims

pub record IsParted (peers : List ℕ) (script : List CallLine) (ls : List Line) : Type 0 where
  pub front : List Line
  pub behind : List Line
  pub lines : ls ≡ front ++ behind
  pub under : AreUnder front
  pub headed : IsHeaded behind
  pub outlines : under_lines (map outline_of ls) ≡ map outline_of front
  pub claimed : puts_claimed (puts_of_script script) (map outline_of ls) ≡ (parts_from peers script behind).due
  pub nothing : (parts_from peers script behind).behind ≡ []

pub parted : (peers : List ℕ) (script : List CallLine) (ls : List Line) → IsParted peers script ls
parted peers script [] = record { front = []; behind = []; lines = refl; under = tt; headed = tt; outlines = refl; claimed = refl; nothing = refl }
parted peers script (l ∷ ls) = go (is_under (outline_of l)) refl (parted peers script ls)
  where
    go : (b : Bool) → is_under (outline_of l) ≡ b → IsParted peers script ls → IsParted peers script (l ∷ ls)
    go true is p = record {
      front = l ∷ p.front;
      behind = p.behind;
      lines = ap (λ (xs : List Line). l ∷ xs) p.lines;
      under = (is, p.under);
      headed = p.headed;
      outlines = ap (λ t. cond t (outline_of l ∷ under_lines (map outline_of ls)) []) is ∙ ap (λ os. outline_of l ∷ os) p.outlines;
      claimed = ap (λ t. cond t (puts_claimed (puts_of_script script) (map outline_of ls)) (puts_of_line (puts_of_script script) (outline_of l))) is ∙ p.claimed;
      nothing = p.nothing;
    }
    go false is p = record {
      front = [];
      behind = l ∷ ls;
      lines = refl;
      under = tt;
      headed = is;
      outlines = ap (λ t. cond t (outline_of l ∷ under_lines (map outline_of ls)) []) is;
      claimed = ap (λ t. cond t (puts_claimed (puts_of_script script) (map outline_of ls)) (puts_of_line (puts_of_script script) (outline_of l))) is ∙ sym (head_due peers script l ls is);
      nothing = head_behind peers script l ls is;
    }
