-- The first pass over a report: what its text tells, or the first line that the format does not allow at its place.
-- Source: docs/FORMATS.md, "Report". A text that ends too early is wrong at the line behind its last.
use Rattle.std.specs.Prelude.{ℕ, ◌+◌, List, [], ◌∷◌, length, map, ◌==◌, Option, None, Some, Result, Ok, Err, if◌then◌else◌}
use Rattle.board_model.specs.declared.scenario.DomainLine.{DomainLine}
use Rattle.board_model.specs.declared.scenario.LinkLine.{LinkLine}
use Rattle.board_model.specs.declared.scenario.Scenario.{Scenario}
use Rattle.board_model.specs.Scenario.{script, neighbours, Lane, lane_to, rising}
use Rattle.board_model.specs.declared.scenario.CallLine.{CallLine}
use Rattle.board_model.specs.Report.{Mode, serial, threads}
use Rattle.board_model.specs.Unjoined.{peers_of, frames_put}
use Rattle.report_text.specs.TextLines.{lines_in, moved}
use Rattle.report_text.specs.Outlines.{told_lines, behind_told}
use Rattle.report_text.specs.JournalOrder.{journal_place}
use Rattle.report_text.specs.ScenarioPart.{Rest, rest, Told, scenario_from}
use Rattle.report_text.specs.ReportLines.{FormWord, has_form, heading_form, journal_form, channel_form, messages_form, lane_form, ring_form, ending_form}

-- a text is read step by step: the first wrong line ends it
infixl 10 ◌>>=◌
abbrev pub ◌>>=◌ : {A B : Type 0} → Result A ℕ → (A → Result B ℕ) → Result B ℕ
Err n >>= f = Err n
Ok x >>= f = f x

-- one line of this form
abbrev pub line_by : List FormWord → ℕ → List (List ℕ) → Result Rest ℕ
line_by form n [] = Err n
line_by form n (l ∷ ls) = if has_form form l then Ok (rest (n + 1) ls) else Err n

abbrev pub one_line : List FormWord → Rest → Result Rest ℕ
one_line form r = line_by form r.number r.lines

-- or else in another way
abbrev pub else_read : {A : Type 0} → Result A ℕ → Result A ℕ → Result A ℕ
else_read (Ok x) other = Ok x
else_read (Err n) other = other

-- ---- the heading, of a run in either mode

-- the mode that a heading names, and what is left behind it
pub record Headed : Type 0 where
  pub mode : Mode
  pub behind : Rest

abbrev pub mode_heading_from : Mode → Rest → Result Headed ℕ
mode_heading_from mode r = do
  behind ← one_line (heading_form mode) r
  Ok (record { mode = mode; behind = behind })

abbrev pub heading_from : Rest → Result Headed ℕ
heading_from r = else_read (mode_heading_from serial r) (mode_heading_from threads r)

-- ---- the journals

-- how many frames each line of a script puts where it succeeds
abbrev pub puts_of_script : List CallLine → List ℕ
puts_of_script script = map (λ c. frames_put c.call) script

-- the lines of a journal, or the first that is wrong
abbrev pub entries_by : Rest → Option ℕ → Result Rest ℕ
entries_by r None = Ok (rest (r.number + length (told_lines r.lines)) (behind_told r.lines))
entries_by r (Some number) = Err number

abbrev pub entries_from : List ℕ → List ℕ → Rest → Result Rest ℕ
entries_from peers puts r = entries_by r (moved r.number (journal_place peers puts (told_lines r.lines)))

abbrev pub journal_from : Scenario → DomainLine → Rest → Result Rest ℕ
journal_from s d r = do
  entries ← one_line (journal_form d.domain) r
  entries_from (peers_of s d) (puts_of_script (script s d.domain)) entries

abbrev pub journals_from : Scenario → List DomainLine → Rest → Result Rest ℕ
journals_from s [] r = Ok r
journals_from s (d ∷ ds) r = do
  behind ← journal_from s d r
  journals_from s ds behind

-- ---- the numbers. Channel lines may be any: which are due hangs on the journals

abbrev pub channels_from : ℕ → List (List ℕ) → Rest
channels_from n [] = rest n []
channels_from n (l ∷ ls) = if has_form channel_form l then channels_from (n + 1) ls else rest n (l ∷ ls)

abbrev pub lanes_from : List Lane → Rest → Result Rest ℕ
lanes_from [] r = Ok r
lanes_from (l ∷ ls) r = do
  behind ← one_line (lane_form l.sender l.receiver) r
  lanes_from ls behind

-- the lanes from each domain to its neighbours
abbrev pub board_lanes_from : Scenario → List DomainLine → Rest → Result Rest ℕ
board_lanes_from s [] r = Ok r
board_lanes_from s (d ∷ ds) r = do
  behind ← lanes_from (map (lane_to d.domain) (neighbours s d)) r
  board_lanes_from s ds behind

-- of each link the ring of queue 0, and then that of queue 1
abbrev pub rings_from : List LinkLine → Rest → Result Rest ℕ
rings_from [] r = Ok r
rings_from (l ∷ ls) r = do
  behind_first ← one_line (ring_form l 0) r
  behind_second ← one_line (ring_form l 1) behind_first
  rings_from ls behind_second

-- a run on one thread has no lines of rings
abbrev pub rings_in : Mode → Scenario → Rest → Result Rest ℕ
rings_in serial s r = Ok r
rings_in threads s r = rings_from s.links r

abbrev pub nothing_behind : Rest → Result Rest ℕ
nothing_behind r = if length r.lines == 0 then Ok r else Err r.number

-- the last line, and nothing behind it
abbrev pub ending_from : Rest → Result Rest ℕ
ending_from r = do
  behind ← one_line ending_form r
  nothing_behind behind

-- the lines behind the journals
abbrev pub numbers_from : Mode → Scenario → Rest → Result Rest ℕ
numbers_from mode s r = do
  behind_messages ← one_line messages_form (channels_from r.number r.lines)
  behind_lanes ← board_lanes_from s (rising s) behind_messages
  behind_rings ← rings_in mode s behind_lanes
  ending_from behind_rings

-- the lines behind the scenario
abbrev pub board_from : Mode → Scenario → Rest → Result Rest ℕ
board_from mode s r = do
  numbers ← journals_from s (rising s) r
  numbers_from mode s numbers

-- ---- the whole text

-- the mode, the scenario and what is left behind it, where that has its form
abbrev pub whole_told : Told → Result Told ℕ
whole_told t = do
  nothing ← board_from t.mode t.scenario t.behind
  Ok t

abbrev pub told_by_lines : List (List ℕ) → Result Told ℕ
told_by_lines ls = do
  heading ← heading_from (rest 1 ls)
  told ← scenario_from heading.mode heading.behind
  whole_told told

-- what a text tells, or its first wrong line
abbrev pub told_by_text : List ℕ → Result Told ℕ
told_by_text text = told_by_lines (lines_in text)
