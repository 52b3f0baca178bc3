-- A line that is refused is one of the text's, or the one behind its last.
use Rattle.std.proofs.Common.{◌≡◌, ℕ, ◌+◌, ◌≤◌, Bool, true, false, cond, ◌&&◌, List, [], ◌∷◌, length, Option, Some, None, subst, arith}
use Rattle.std.specs.Prelude.{◌==◌, Ok, Err}
use Rattle.board_model.specs.declared.scenario.Scenario.{Scenario}
use Rattle.board_model.specs.declared.reason.LineReason.{LineReason}
use Rattle.board_model.specs.declared.reason.LineReason.TheVariants.{Domain}
use Rattle.board_model.specs.FileLines.{begins_with, lines_of, onto_first, words_of}
use Rattle.board_model.specs.Forms.{parts_of}
use Rattle.board_model.specs.LineReasons.{is_empty, line_reason, with_parts}
use Rattle.board_model.specs.Language.{RefusedLine, refused, unless_refused, nothing_told, told_from, told_by}
use Rattle.scenario_lang.specs.Refused.{IfRefused}
use Rattle.scenario_lang.specs.declared.fault.ScenarioFault.TheVariants as scenario_fault

refused-within : (n : ℕ) (above : Scenario) (ls : List (List ℕ)) (e : RefusedLine) → told_from n above ls ≡ Err e → e.line ≤ n + length ls
refused-within n above [] e is = go (is_empty above.domains) is
  where
    go : (t : Bool) → cond t (Err (refused n Domain)) (Ok above) ≡ Err e → e.line ≤ n + 0
    go true is = let same : refused n Domain ≡ e = cc in subst (λ (x : RefusedLine). x.line ≤ n + 0) same (omega arith)
    go false is = absurd cc
refused-within n above (l ∷ ls) e is = go (line_reason above l) is (λ h. refused-within (n + 1) (with_parts above (parts_of (words_of l))) ls e h)
  where
    go : (o : Option LineReason) → unless_refused n o (told_from (n + 1) (with_parts above (parts_of (words_of l))) ls) ≡ Err e → (told_from (n + 1) (with_parts above (parts_of (words_of l))) ls ≡ Err e → e.line ≤ (n + 1) + length ls) → e.line ≤ n + length (l ∷ ls)
    go None is h = let below = h is in omega (arith, below)
    go (Some reason) is h = let same : refused n reason ≡ e = cc in subst (λ (x : RefusedLine). x.line ≤ n + length (l ∷ ls)) same (omega arith)

lines-few : (bs : List ℕ) → length (lines_of bs) ≤ length bs
lines-few [] = omega arith
lines-few (b ∷ bs) = first (b == 10) (lines-few bs)
  where
    onto : (ls : List (List ℕ)) → length ls ≤ length bs → length (onto_first b ls) ≤ length (b ∷ bs)
    onto [] few = omega arith
    onto (l ∷ ls) few = omega (arith, few)

    second : (t : Bool) → length (lines_of bs) ≤ length bs → length (cond t (lines_of bs) (onto_first b (lines_of bs))) ≤ length (b ∷ bs)
    second true few = omega (arith, few)
    second false few = onto (lines_of bs) few

    first : (t : Bool) → length (lines_of bs) ≤ length bs → length (cond t ([] ∷ lines_of bs) (cond ((b == 13) && begins_with 10 bs) (lines_of bs) (onto_first b (lines_of bs)))) ≤ length (b ∷ bs)
    first true few = omega (arith, few)
    first false few = second ((b == 13) && begins_with 10 bs) few

pub refused-line : (text : List ℕ) (e : RefusedLine) → told_by text ≡ Err e → e.line ≤ 1 + length text
refused-line text e is = let within = refused-within 1 nothing_told (lines_of text) e is in omega (arith, within, lines-few text)

-- what a reader says of a text that it refuses
pub refused-told : (text : List ℕ) (line : ℕ) (reason : LineReason) → IfRefused {X = Scenario} (Err (scenario_fault.Refused line reason)) (λ n r. told_by text ≡ Err (refused n r)) → told_by text ≡ Err (refused line reason)
refused-told text line reason is = is
