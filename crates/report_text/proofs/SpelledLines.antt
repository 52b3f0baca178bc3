-- What the first line of a text says, by the entry that is read from it with the digits of its bytes.
use Rattle.std.proofs.Common.{◌≡◌, ℕ, ◌+◌, ◌-◌, ◌<◌, ◌≤◌, List, [], ◌∷◌, ◌++◌, length, drop, Option, Some, None, refl, sym, ap, subst, ◌∙◌, arith, append_assoc, length-drop, slice_index_or}
use Rattle.std.specs.Prelude.{option_map}
use Rattle.board_model.specs.Journal.{PlainAnswer, refuses, agrees, tells, connects, gives, completes, Line, idle_line, again_line, spin_line, turn_line, back_line, put_line, see_line, take_line, wait_line, call_line}
use Rattle.mc_journal.specs.declared.entry.Entry.{Entry}
use Rattle.mc_journal.specs.Entry.{line_of_entry}
use Rattle.mc_journal.specs.Readers.{cut_at}
use Rattle.mc_journal.specs.Spelled.{spelled_answer, spelled_line}
use Rattle.report_text.specs.declared.outline.Outline.{Outline}
use Rattle.report_text.specs.declared.outline.Outline.TheVariants as outline
use Rattle.report_text.specs.JournalRead.{line_before}
use Rattle.report_text.specs.Outlines.{is_refusal, outline_of, outline_in, told_first, all_or}
use Rattle.report_text.specs.LaneLines.{lane_of, lanes_told}
use Rattle.report_text.specs.SpelledTexts.{AreSpelled, IsFirstLine}
use Rattle.report_text.specs.declared.spelled_text.SpelledLine.{SpelledLine}
use Rattle.report_text.specs.TextLines.{lines_in}
use Rattle.report_text.specs.Texts.{lines_told, lines_behind, longest_line}
use Rattle.report_text.proofs.LaneLemmas.{said_lines, said_first, said-cut, said-uncut}
use Rattle.report_text.proofs.TextCuts.{told-cut, told-uncut, behind-cut, longest-cut}

-- no outline hangs on bytes
refusal-spelled : (a : PlainAnswer) → is_refusal (spelled_answer a) ≡ is_refusal a
refusal-spelled (refuses word) = refl
refusal-spelled agrees = refl
refusal-spelled (tells n) = refl
refusal-spelled (connects request channel) = refl
refusal-spelled (gives size bytes) = refl
refusal-spelled (completes place result) = refl

pub outline-spelled : (l : Line) → outline_of (spelled_line l) ≡ outline_of l
outline-spelled (idle_line n) = refl
outline-spelled (again_line word) = refl
outline-spelled (spin_line n word) = refl
outline-spelled turn_line = refl
outline-spelled (back_line p n) = refl
outline-spelled (put_line p frame) = refl
outline-spelled (see_line p n) = refl
outline-spelled (take_line p frame fate) = refl
outline-spelled (wait_line number) = refl
outline-spelled (call_line number answer) = ap (outline.Call number) (refusal-spelled answer)

-- ---- a text that begins with a line of a journal

module _ (text : List ℕ) (e : Entry) (behind : List ℕ) (first : IsFirstLine text e behind) where
  pub first-said : {A : Type 0} (f : Line → A) → said_lines f text ≡ f (spelled_line (line_of_entry e)) ∷ said_lines f behind
  first-said {A = A} f = said-cut f text (first.front, behind) first.cut ∙ ap (λ (o : Option Line). said_first f (option_map f o) (said_lines f behind)) first.line

  outline-first : outline_in first.front ≡ Some (outline_of (line_of_entry e))
  outline-first = ap (option_map outline_of) first.line ∙ ap Some (outline-spelled (line_of_entry e))

  pub first-told : lines_told text ≡ outline_of (line_of_entry e) ∷ lines_told behind
  first-told = told-cut text (first.front, behind) first.cut ∙ ap (λ (o : Option Outline). told_first o (lines_told behind)) outline-first

  pub first-behind : lines_behind behind ≡ lines_behind text
  first-behind = sym (behind-cut text (first.front, behind) first.cut ∙ ap (λ (o : Option Outline). all_or o (lines_in text) (lines_behind behind)) outline-first)

  pub first-fits : longest_line behind ≤ longest_line text
  first-fits = omega (arith, longest-cut text (first.front, behind) first.cut)

-- ---- one that begins with none

module _ (text : List ℕ) (none : line_before (cut_at 10 text) ≡ None) where
  pub none-said : {A : Type 0} (f : Line → A) → said_lines f text ≡ []
  none-said f = go (cut_at 10 text) refl none
    where
      go : (o : Option (List ℕ × List ℕ)) → cut_at 10 text ≡ o → line_before o ≡ None → said_lines f text ≡ []
      go None is e = said-uncut f text is
      go (Some x) is e = said-cut f text x is ∙ ap (λ (o : Option Line). said_first f (option_map f o) (said_lines f x.1)) e

  pub none-told : lines_told text ≡ []
  none-told = go (cut_at 10 text) refl none
    where
      go : (o : Option (List ℕ × List ℕ)) → cut_at 10 text ≡ o → line_before o ≡ None → lines_told text ≡ []
      go None is e = told-uncut text is
      go (Some x) is e = told-cut text x is ∙ ap (λ (o : Option Line). told_first (option_map outline_of o) (lines_told x.1)) e

-- ---- the lines that were read of a text

pub read-none : (text : List ℕ) (ls : List SpelledLine) → length ls < 1 → AreSpelled text ls → lanes_told text ≡ []
read-none text [] few are = none-said text are lane_of
read-none text (l ∷ ls) few are = absurd (omega (arith, few))

pub read-first : (text rest : List ℕ) (ls : List SpelledLine) (none : SpelledLine) → 1 ≤ length ls → AreSpelled text ls → rest ≡ drop (slice_index_or ls 0 none).size text → IsFirstLine text (slice_index_or ls 0 none).entry rest
read-first text rest [] none some are is = absurd (omega (arith, some))
read-first text rest (l ∷ ls) none some are is = subst (IsFirstLine text l.entry) (sym is) are.0

-- with one line more that was read
pub read-more : (text rest after : List ℕ) (ls : List SpelledLine) (e : Entry) (size : ℕ) → IsFirstLine rest e after → size ≡ length rest - length after → length rest ≤ length text → ((ms : List SpelledLine) → AreSpelled rest ms → AreSpelled text (ls ++ ms))
    → (ms : List SpelledLine) → AreSpelled after ms → AreSpelled text ((ls ++ record { entry = e; size = size } ∷ []) ++ ms)
read-more text rest after ls e size first is shorter before ms are =
    let l : SpelledLine = record { entry = e; size = size } in
    let count : length after ≡ length rest - (length first.front + 1) = ap (λ (t : List ℕ). length t) first.rest ∙ length-drop (length first.front + 1) rest in
    let size-is : size ≡ length first.front + 1 = omega (arith, is, count, first.shorter) in
    let behind : after ≡ drop size rest = first.rest ∙ ap (λ n. drop n rest) (sym size-is) in
    let within : size ≤ length rest = omega (arith, is) in
    let more : AreSpelled rest (l ∷ ms) = (subst (IsFirstLine rest e) behind first, within, subst (λ (t : List ℕ). AreSpelled t ms) behind are) in
    subst (AreSpelled text) (sym (append_assoc ls (l ∷ []) ms)) (before (l ∷ ms) more)
