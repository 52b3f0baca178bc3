-- What a text tells, by induction over its lines: what each line keeps that is not refused holds of all that is told.
use Rattle.std.proofs.Common.{◌≡◌, ℕ, ◌+◌, Bool, true, false, not, cond, List, [], ◌∷◌, length, Option, Some, None, Result, Ok, Err, refl, subst, arith}
use Rattle.std.specs.List.{AllByRecursion}
use Rattle.board_model.specs.declared.scenario.Scenario.{Scenario}
use Rattle.board_model.specs.declared.reason.LineReason.{LineReason}
use Rattle.board_model.specs.declared.reason.LineReason.TheVariants.{Domain}
use Rattle.board_model.specs.FileLines.{lines_of, words_of}
use Rattle.board_model.specs.Forms.{LineParts, parts_of}
use Rattle.board_model.specs.LineReasons.{is_empty, LineTest, word_reasons, reasons, first_reason, line_reason, with_parts}
use Rattle.board_model.specs.Language.{RefusedLine, refused, unless_refused, nothing_told, told_from, told_by}
use Rattle.board_model.proofs.LawfulParts.{FitsIfRead, parts_fit}

pub from_not : (b : Bool) → not b ≡ false → b ≡ true
from_not true e = refl
from_not false e = absurd cc

-- no reason of these holds
abbrev pub HoldNot : List LineTest → Type 0
HoldNot ts = AllByRecursion (λ t. t.holds ≡ false) ts

none_holds : (ts : List LineTest) → first_reason ts ≡ None → HoldNot ts
none_holds [] e = tt
none_holds (t ∷ ts) e = go t.holds refl e (λ rest. none_holds ts rest)
  where
    go : (b : Bool) → t.holds ≡ b → cond b (Some t.reason) (first_reason ts) ≡ None → (first_reason ts ≡ None → HoldNot ts) → HoldNot (t ∷ ts)
    go true is none rest = absurd cc
    go false is none rest = (is, rest none)

pub no-reason : (n : ℕ) (o : Option LineReason) (rest : Result Scenario RefusedLine) (s : Scenario) → unless_refused n o rest ≡ Ok s → (o ≡ None) × (rest ≡ Ok s)
no-reason n None rest s e = (refl, e)
no-reason n (Some reason) rest s e = absurd cc

told_last : (b : Bool) (r : RefusedLine) (above s : Scenario) → cond b (Err r) (Ok above) ≡ Ok s → above ≡ s
told_last true r above s e = absurd cc
told_last false r above s e = cc

-- R holds before each line of what is told above it, by the line's number
module _ (R : ℕ → Scenario → Type 0) (step : (n : ℕ) (above : Scenario) (p : Option LineParts) → FitsIfRead p → HoldNot (word_reasons above p) → R n above → R (n + 1) (with_parts above p)) where
  lines_keep : (lines : List (List ℕ)) (n : ℕ) (above s : Scenario) → told_from n above lines ≡ Ok s → R n above → R (n + length lines) s
  lines_keep [] n above s told here =
      let last : n ≡ n + length {A = List ℕ} [] = omega arith in
      subst (λ k. R k s) last (subst (R n) (told_last (is_empty above.domains) (refused n Domain) above s told) here)
  lines_keep (line ∷ lines) n above s told here =
      let parts = parts_of (words_of line) in
      let passed = no-reason n (line_reason above line) (told_from (n + 1) (with_parts above parts) lines) s told in
      let on : R (n + 1) (with_parts above parts) = step n above parts (parts_fit (words_of line)) (none_holds (reasons above line) passed.0).1.1 here in
      let last : n + 1 + length lines ≡ n + length (line ∷ lines) = omega arith in
      subst (λ k. R k s) last (lines_keep lines (n + 1) (with_parts above parts) s passed.1 on)

  pub text-keeps : (text : List ℕ) (s : Scenario) → told_by text ≡ Ok s → R 1 nothing_told → R (1 + length (lines_of text)) s
  text-keeps text s told first = lines_keep (lines_of text) 1 nothing_told s told first
