-- The scenario at the head of a report: its lines up to the first that begins with `journal `. They are the canonical text of what they tell.
-- Source: docs/FORMATS.md, "Scenario files" and "Report". Else the first wrong line is the first that is not in that text, or, where a line is
-- refused, the first of those above it that is not in the text of what they tell, and then the refused line itself.
use Rattle.std.specs.Prelude.{ℕ, ◌+◌, ◌-◌, Bool, false, List, [], ◌∷◌, length, take, codes, bytes_eq, unwrap_or, Option, None, Some, Result, Ok, Err, if◌then◌else◌}
use Rattle.std.specs.List.{flat_map}
use Rattle.board_model.specs.declared.scenario.Scenario.{Scenario}
use Rattle.board_model.specs.Grammar.{canonical}
use Rattle.board_model.specs.Language.{RefusedLine, told_by}
use Rattle.board_model.specs.Report.{Mode}
use Rattle.mc_journal.specs.Readers.{cut_at}
use Rattle.report_text.specs.TextLines.{first_other, lines_in}

-- what is left of a text: its lines, and the number of the first of them
pub record Rest : Type 0 where
  pub number : ℕ
  pub lines : List (List ℕ)

abbrev pub rest : ℕ → List (List ℕ) → Rest
rest number lines = record { number = number; lines = lines }

-- the mode of a run and its scenario, and what is left behind that
pub record Told : Type 0 where
  pub mode : Mode
  pub scenario : Scenario
  pub behind : Rest

-- ---- its lines

abbrev pub is_journal : Option (List ℕ × List ℕ) → Bool
is_journal None = false
is_journal (Some x) = bytes_eq (codes "journal") x.0

-- the line begins with the word, and a blank
abbrev pub begins_journal : List ℕ → Bool
begins_journal line = is_journal (cut_at 32 line)

abbrev pub front_lines : List (List ℕ) → List (List ℕ)
front_lines [] = []
front_lines (l ∷ ls) = if begins_journal l then [] else l ∷ front_lines ls

abbrev pub behind_front : List (List ℕ) → List (List ℕ)
behind_front [] = []
behind_front (l ∷ ls) = if begins_journal l then l ∷ ls else behind_front ls

-- ---- its first wrong line, by how many are right before it

-- the text of lines
abbrev pub text_of : List (List ℕ) → List ℕ
text_of lines = flat_map (λ l. l) lines

-- the first line that is not the scenario's canonical one
abbrev pub other_place : Scenario → List (List ℕ) → Option ℕ
other_place s lines = first_other lines (lines_in (canonical s))

-- so many lines are not refused, and the next one is. Where those tell no domain, they say nothing, and the first of them is wrong
abbrev pub refused_place : List (List ℕ) → ℕ → Result Scenario RefusedLine → ℕ
refused_place lines passed (Ok s) = unwrap_or (other_place s lines) passed
refused_place lines passed (Err e) = 0

abbrev pub scenario_unless : Option ℕ → Scenario → Result Scenario ℕ
scenario_unless None s = Ok s
scenario_unless (Some place) s = Err place

abbrev pub scenario_by : List (List ℕ) → Result Scenario RefusedLine → Result Scenario ℕ
scenario_by lines (Ok s) = scenario_unless (other_place s lines) s
scenario_by lines (Err e) = Err (refused_place (take (e.line - 1) lines) (e.line - 1) (told_by (text_of (take (e.line - 1) lines))))

-- the scenario of these lines, or the place of the first that is wrong
abbrev pub scenario_in : List (List ℕ) → Result Scenario ℕ
scenario_in lines = scenario_by lines (told_by (text_of lines))

abbrev pub told_behind : Mode → Rest → Result Scenario ℕ → Result Told ℕ
told_behind mode r (Ok s) = Ok (record { mode = mode; scenario = s; behind = rest (r.number + length (front_lines r.lines)) (behind_front r.lines) })
told_behind mode r (Err place) = Err (r.number + place)

-- behind the heading of this mode
abbrev pub scenario_from : Mode → Rest → Result Told ℕ
scenario_from mode r = told_behind mode r (scenario_in (front_lines r.lines))
