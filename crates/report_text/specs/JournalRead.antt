-- What a right text tells of the journals: for each domain its lines, and their parts.
-- Source: docs/FORMATS.md, "Journal text". The lines are read from the last to the first, since a call claims the puts before it.
use Rattle.std.specs.Prelude.{ℕ, ◌+◌, ◌-◌, nat_lt, List, [], ◌∷◌, length, drop, map, Option, None, Some, if◌then◌else◌}
use Rattle.board_model.specs.declared.scenario.CallLine.{CallLine}
use Rattle.board_model.specs.declared.scenario.DomainLine.{DomainLine}
use Rattle.board_model.specs.Journal.{Line, idle_line, again_line, spin_line, turn_line, back_line, put_line, see_line, take_line, wait_line, call_line}
use Rattle.board_model.specs.Unjoined.{puts_of, line_numbered, visit_in}
use Rattle.board_model.specs.JournalParts.{Part, idles, spins, tries, turn_of, wait_of, call_of}
use Rattle.mc_journal.specs.Readers.{cut_at}
use Rattle.mc_journal.specs.LineForms.{line_in}
use Rattle.report_text.specs.Outlines.{told_line, told_lines, behind_told}
use Rattle.report_text.specs.ScenarioPart.{Rest, rest}
use Rattle.report_text.specs.declared.outline.Outline.{Outline}

-- ---- the lines of a journal in a text, and each as what it tells

abbrev pub text_first : Option Outline → List ℕ → List (List ℕ) → List (List ℕ)
text_first None l ls = []
text_first (Some line) l ls = l ∷ ls

abbrev pub told_texts : List (List ℕ) → List (List ℕ)
told_texts [] = []
told_texts (l ∷ ls) = text_first (told_line l) l (told_texts ls)

abbrev pub line_first : Option Line → List Line → List Line
line_first None ls = ls
line_first (Some l) ls = l ∷ ls

abbrev pub line_before : Option (List ℕ × List ℕ) → Option Line
line_before None = None
line_before (Some x) = line_in x.0

abbrev pub lines_of_texts : List (List ℕ) → List Line
lines_of_texts [] = []
lines_of_texts (l ∷ ls) = line_first (line_before (cut_at 10 l)) (lines_of_texts ls)

-- a journal in a text: its domain, the number of its first line, and its lines
pub record JournalText : Type 0 where
  pub line : DomainLine
  pub number : ℕ
  pub texts : List (List ℕ)

-- the journals of these domains, each behind the line that heads it
abbrev pub journal_at : DomainLine → Rest → JournalText
journal_at d r = record { line = d; number = r.number + 1; texts = told_texts (drop 1 r.lines) }

abbrev pub behind_journal : Rest → Rest
behind_journal r = rest (r.number + 1 + length (told_lines (drop 1 r.lines))) (behind_told (drop 1 r.lines))

abbrev pub journals_at : List DomainLine → Rest → List JournalText
journals_at [] r = []
journals_at (d ∷ ds) r = journal_at d r ∷ journals_at ds (behind_journal r)

abbrev pub behind_journals : List DomainLine → Rest → Rest
behind_journals [] r = r
behind_journals (d ∷ ds) r = behind_journals ds (behind_journal r)

-- ---- the parts of a journal

-- the parts from one on, the lines that are still a turn's, and how many put lines in front are the first part's, a call
pub record Parts : Type 0 where
  pub due : ℕ
  pub behind : List Line
  pub parts : List Part

abbrev pub behind_part : Part → Parts → Parts
behind_part p t = record { due = 0; behind = []; parts = p ∷ t.parts }

abbrev pub under_part : Line → Parts → Parts
under_part l t = record { due = 0; behind = l ∷ t.behind; parts = t.parts }

abbrev pub with_put : ℕ → List ℕ → List Part → List Part
with_put p frame (call_of ps k a ∷ parts) = call_of ((p, frame) ∷ ps) k a ∷ parts
with_put p frame parts = parts

abbrev pub parts_with : List ℕ → List CallLine → Line → Parts → Parts
parts_with peers script (idle_line n) t = behind_part (idles n) t
parts_with peers script (again_line word) t = behind_part (tries word) t
parts_with peers script (spin_line n word) t = behind_part (spins n word) t
parts_with peers script turn_line t = behind_part (turn_of (map (visit_in t.behind) peers)) t
parts_with peers script (wait_line k) t = behind_part (wait_of k) t
parts_with peers script (call_line k a) t = record { due = puts_of (line_numbered script k) a; behind = []; parts = call_of [] k a ∷ t.parts }
parts_with peers script (put_line p frame) t = if nat_lt 0 t.due then record { due = t.due - 1; behind = t.behind; parts = with_put p frame t.parts } else under_part (put_line p frame) t
parts_with peers script (back_line p n) t = under_part (back_line p n) t
parts_with peers script (see_line p n) t = under_part (see_line p n) t
parts_with peers script (take_line p frame fate) t = under_part (take_line p frame fate) t

abbrev pub parts_from : List ℕ → List CallLine → List Line → Parts
parts_from peers script [] = record { due = 0; behind = []; parts = [] }
parts_from peers script (l ∷ ls) = parts_with peers script l (parts_from peers script ls)

abbrev pub parts_in : List ℕ → List CallLine → List Line → List Part
parts_in peers script ls = (parts_from peers script ls).parts
