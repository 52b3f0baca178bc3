-- The lines of a call that is due, as they are compared.
use Rattle.std.proofs.Common.{◌≡◌, ℕ, zero, suc, Bool, true, false, cond, List, [], ◌∷◌, ◌++◌, length, take, drop, Option, Some, None, option_map, Result, Ok, Err, refl, sym, ap, ◌∙◌, subst, IfOk, ◌<◌, arith}
use Rattle.std.specs.Prelude.{slice_get, unwrap_or, ◌==◌}
use Rattle.std.proofs.lemmas.Bool.{ne_eqb}
use Rattle.std.proofs.lemmas.List.{map-append, take_all}
use Rattle.std.proofs.lemmas.Option.{slice_get_within}
use Rattle.board_model.specs.declared.scenario.CallLine.{CallLine}
use Rattle.board_model.specs.Answer.{answer, puts}
use Rattle.board_model.specs.Journal.{PlainAnswer, Line, put_line}
use Rattle.board_model.specs.Step.{RunState, call_at, limit_of}
use Rattle.report_text.specs.StepPass.{due_answer, due_behind, due_wait, due_at_limit, other_than}
use Rattle.report_check.specs.Meeting.{LinesLeft, Meets, place_after}
use Rattle.report_check.specs.Runs.{told_by, lines_put, times_behind}
use Rattle.report_replay.specs.Puts.{headed}
use Rattle.report_check.proofs.MeetingLemmas.{other-found, meets-missed, meets-then}

-- the same lines are due
pub other-due : {E : Type 0} (r : Result Bool E) (old new : LinesLeft) {due next : List Line} → due ≡ next → IfOk r (λ is. Meets old new due is) → IfOk r (λ is. Meets old new next is)
other-due (Ok is) old new same met = subst (λ ds. Meets old new ds is) same met
other-due (Err e) old new same met = met

pub found-at : (old new : LinesLeft) (due : List Line) (is : Bool) → old.place ≡ 0 → Meets old new due is → place_after new is ≡ other_than due old.texts
found-at old new due is first met =
    let whole : old ≡ record { texts = old.texts; place = 0 } = ap (λ (n : ℕ). record { texts = old.texts; place = n }) first in
    sym (other-found old.texts new due is (subst (λ (l : LinesLeft). Meets l new due is) whole met))

put-first : (times : Option ℕ) (p : ℕ × List ℕ) (ps : List (ℕ × List ℕ)) (due : List Line) → told_by times (lines_put (p ∷ ps) ++ due) ≡ lines_put (p ∷ ps) ++ due
put-first None p ps due = refl
put-first (Some n) p ps due = refl

-- puts are due before the answer, and then tries are not told in a row
pub behind-lines : (ps : List (ℕ × List ℕ)) (times : Option ℕ) (line : CallLine) (r : RunState) → ps ≡ puts r.state line.node (call_at r line)
    → lines_put ps ++ told_by (times_behind (length ps) times) (due_answer line r (answer r.state line.node (call_at r line))) ≡ told_by times (due_behind line r (Some []))
behind-lines [] times line r e = ap (λ ps. told_by times (lines_put ps ++ due_answer line r (answer r.state line.node (call_at r line)))) e
behind-lines (p ∷ ps) times line r e =
    let due : List Line = due_answer line r (answer r.state line.node (call_at r line)) in
    ap (λ b. lines_put (p ∷ ps) ++ told_by (cond b times None) due) (ne_eqb (length (p ∷ ps)) 0 (λ none. absurd (omega (arith, none))))
    ∙ (sym (put-first times p ps due)
    ∙ ap (λ qs. told_by times (lines_put qs ++ due)) e)

module _ (old mid : LinesLeft) (ps : List (ℕ × List ℕ)) (times : Option ℕ) (line : CallLine) (r : RunState) (are : ps ≡ puts r.state line.node (call_at r line)) where
  abbrev answered : List Line
  answered = told_by (times_behind (length ps) times) (due_answer line r (answer r.state line.node (call_at r line)))

  pub behind-missed : Meets old mid (lines_put ps) false → Meets old mid (told_by times (due_behind line r (Some []))) false
  behind-missed missed = subst (λ ls. Meets old mid ls false) (behind-lines ps times line r are) (meets-missed old mid (lines_put ps) answered missed)

  pub behind-then : {E : Type 0} (new : LinesLeft) (result : Result Bool E) (due : List Line) → due ≡ answered → Meets old mid (lines_put ps) true → IfOk result (λ is. Meets mid new due is)
      → IfOk result (λ is. Meets old new (told_by times (due_behind line r (Some []))) is)
  behind-then new (Ok is) due same met then =
      subst (λ ls. Meets old new ls is) (behind-lines ps times line r are)
      (meets-then old mid new (lines_put ps) answered is met (subst (λ ls. Meets mid new ls is) same then))
  behind-then new (Err e) due same met then = tt

-- ---- the puts, one by one

split-at : {A : Type 0} (xs : List A) (n m : ℕ) (x : A) → slice_get xs n ≡ Some x → m ≡ suc n → (take m xs ≡ take n xs ++ x ∷ []) × (xs ≡ take n xs ++ x ∷ drop m xs)
split-at [] n m x e is = absurd cc
split-at (y ∷ ys) zero m x e is = let same : y ≡ x = cc in (ap (λ k. take k (y ∷ ys)) is ∙ ap (λ z. z ∷ []) same, ap (λ z. z ∷ ys) same ∙ ap (λ k. x ∷ drop k (y ∷ ys)) (sym is))
split-at (y ∷ ys) (suc n) m x e is =
    let there = split-at ys n (suc n) x e refl in
    (ap (λ k. take k (y ∷ ys)) is ∙ ap (λ zs. y ∷ zs) there.0, ap (λ zs. y ∷ zs) there.1 ∙ ap (λ k. y ∷ (take n ys ++ x ∷ drop k (y ∷ ys))) (sym is))

lines-join : (ps qs : List (ℕ × List ℕ)) → lines_put (ps ++ qs) ≡ lines_put ps ++ lines_put qs
lines-join ps qs = map-append (λ (p : ℕ × List ℕ). put_line p.0 p.1) ps qs

module _ (ps : List (ℕ × List ℕ)) (n m : ℕ) (p : ℕ × List ℕ) (is : m ≡ suc n) (there : slice_get ps n ≡ Some p) (old mid new : LinesLeft) (met : Meets old mid (lines_put (take n ps)) true) where
  pub puts-met : Meets mid new (put_line p.0 p.1 ∷ []) true → Meets old new (lines_put (take m ps)) true
  puts-met one =
      subst (λ qs. Meets old new (lines_put qs) true) (sym (split-at ps n m p there is).0)
      (subst (λ ls. Meets old new ls true) (sym (lines-join (take n ps) (p ∷ [])))
      (meets-then old mid new (lines_put (take n ps)) (lines_put (p ∷ [])) true met one))

  pub puts-missed : Meets mid new (put_line p.0 p.1 ∷ []) false → Meets old new (lines_put ps) false
  puts-missed one =
      subst (λ qs. Meets old new (lines_put qs) false) (sym (split-at ps n m p there is).1)
      (subst (λ ls. Meets old new ls false) (sym (lines-join (take n ps) (p ∷ drop m ps)))
      (meets-then old mid new (lines_put (take n ps)) (lines_put (p ∷ drop m ps)) false met (meets-missed mid new (lines_put (p ∷ [])) (lines_put (drop m ps)) one)))

-- one is there as long as not all were met
pub none-left : {A : Type 0} (xs : List A) (n : ℕ) → None ≡ slice_get xs n → n < length xs → ⊥
none-left [] n none less = omega (arith, less)
none-left (x ∷ xs) zero none less = cc
none-left (x ∷ xs) (suc n) none less = none-left xs n none (omega (arith, less))

pub all-puts : (ps : List (ℕ × List ℕ)) (n : ℕ) → n ≡ length ps → take n ps ≡ ps
all-puts ps n is = take_all n ps (omega (arith, is))

pub many-puts : (ps : List (ℕ × List ℕ)) (o : Option (ℕ × ℕ)) → o ≡ headed ps → length ps ≡ unwrap_or (option_map (λ x. x.1) o) 0
many-puts [] o is = ap (λ (x : Option (ℕ × ℕ)). unwrap_or (option_map (λ y. y.1) x) 0) (sym is)
many-puts (p ∷ ps) o is = ap (λ (x : Option (ℕ × ℕ)). unwrap_or (option_map (λ y. y.1) x) 0) (sym is)

-- a wait is told by no tries
pub wait-lines : (times : Option ℕ) (limit : ℕ) (line : CallLine) (r : RunState) (a : PlainAnswer) → limit_of line.call ≡ Some limit → a ≡ answer r.state line.node (call_at r line) → told_by times (due_wait limit r a r.waited) ≡ told_by times (due_at_limit (limit_of line.call) line r)
wait-lines times limit line r a is same = ap (λ b. told_by times (due_wait limit r b r.waited)) same ∙ ap (λ l. told_by times (due_at_limit l line r)) (sym is)

-- the next line is in the script
pub next-within : (lines : List CallLine) (n : ℕ) (l : CallLine) → Some l ≡ slice_get lines n → n < length lines
next-within lines n l e = slice_get_within lines n l (sym e)
