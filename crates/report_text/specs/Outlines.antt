-- The outline of a journal's line: what its place among the other lines hangs on. Frames are left out, and so is what a call answered, but
-- for whether it was refused: `ok 1 66` is the text of two answers.
-- Source: docs/FORMATS.md, "Journal text".
use Rattle.std.specs.Prelude.{ℕ, Bool, true, false, List, [], ◌∷◌, Option, None, Some, option_map}
use Rattle.board_model.specs.Journal.{PlainAnswer, refuses, Line, idle_line, again_line, spin_line, turn_line, back_line, put_line, see_line, take_line, wait_line, call_line}
use Rattle.mc_journal.specs.Readers.{cut_at}
use Rattle.mc_journal.specs.LineForms.{line_in}
use Rattle.report_text.specs.declared.outline.Outline.{Outline}
use Rattle.report_text.specs.declared.outline.Outline.TheVariants as outline

abbrev pub is_refusal : PlainAnswer → Bool
is_refusal (refuses word) = true
is_refusal other = false

abbrev pub outline_of : Line → Outline
outline_of (idle_line n) = outline.Idle n
outline_of (again_line word) = outline.Again word
outline_of (spin_line n word) = outline.Spin n word
outline_of turn_line = outline.Turn
outline_of (back_line p n) = outline.Back p n
outline_of (put_line p frame) = outline.Put p
outline_of (see_line p n) = outline.See p n
outline_of (take_line p frame fate) = outline.Take p
outline_of (wait_line number) = outline.Wait
outline_of (call_line number answer) = outline.Call number (is_refusal answer)

-- the outline of what stands before a newline
abbrev pub outline_in : List ℕ → Option Outline
outline_in text = option_map outline_of (line_in text)

abbrev pub outline_before : Option (List ℕ × List ℕ) → Option Outline
outline_before None = None
outline_before (Some x) = outline_in x.0

-- of a line of a text
abbrev pub told_line : List ℕ → Option Outline
told_line line = outline_before (cut_at 10 line)

abbrev pub told_first : Option Outline → List Outline → List Outline
told_first None lines = []
told_first (Some line) lines = line ∷ lines

-- of the lines of a journal that stand first among these
abbrev pub told_lines : List (List ℕ) → List Outline
told_lines [] = []
told_lines (l ∷ ls) = told_first (told_line l) (told_lines ls)

abbrev pub all_or : {A : Type 0} → Option Outline → A → A → A
all_or None all behind = all
all_or (Some line) all behind = behind

-- and the lines behind those
abbrev pub behind_told : List (List ℕ) → List (List ℕ)
behind_told [] = []
behind_told (l ∷ ls) = all_or (told_line l) (l ∷ ls) (behind_told ls)
