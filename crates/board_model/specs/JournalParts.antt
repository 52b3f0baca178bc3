-- The parts of a written journal: idle turns in a row, tries in a row that each followed one idle turn, another try, a turn with its
-- lines, a wait that begins, or a call with its puts.
-- Source: docs/FORMATS.md, "Journal text".
use Rattle.std.specs.Prelude.{◌≡◌, ℕ, ◌-◌, ◌^◌, ◌≤◌, false, List, [], ◌∷◌, ◌++◌, length, map, Option, None, slice_get}
use Rattle.std.specs.List.{flat_map, list_all}
use Rattle.mc_base.specs.declared.refusal.Refusal.{Refusal}
use Rattle.board_model.specs.Journal.{PlainAnswer, Visit, PlainEntry, turned, put, again, waits, called, Line, idle_line, again_line, spin_line, turn_line, put_line, call_line, visit_lines, is_idle, joinable, spinning, is_one_idle, wait_line}
use Rattle.board_model.specs.Unjoined.{times, idle_turn}

pub data Part : Type 0 where
  idles : ℕ → Part
  spins : ℕ → Refusal → Part
  tries : Refusal → Part
  turn_of : List Visit → Part
  wait_of : ℕ → Part
  call_of : List (ℕ × List ℕ) → ℕ → PlainAnswer → Part

abbrev pub part_lines : Part → List Line
part_lines (idles n) = idle_line n ∷ []
part_lines (spins n word) = spin_line n word ∷ []
part_lines (tries word) = again_line word ∷ []
part_lines (turn_of visits) = turn_line ∷ flat_map visit_lines visits
part_lines (wait_of k) = wait_line k ∷ []
part_lines (call_of ps k a) = map (λ p. put_line p.0 p.1) ps ++ call_line k a ∷ []

abbrev pub part_entries : List ℕ → Part → List PlainEntry
part_entries peers (idles n) = times n (idle_turn peers ∷ [])
part_entries peers (spins n word) = times n (idle_turn peers ∷ again word ∷ [])
part_entries peers (tries word) = again word ∷ []
part_entries peers (turn_of visits) = turned visits ∷ []
part_entries peers (wait_of k) = waits k ∷ []
part_entries peers (call_of ps k a) = map (λ p. put p.0 p.1) ps ++ called k a ∷ []

abbrev pub last_line : List Line → Option Line
last_line lines = slice_get lines (length lines - 1)

-- the count of a part that stands for many
abbrev pub IsCount : ℕ → Type 0
IsCount n = (1 ≤ n) × (n ≤ 2 ^ 64 - 1)

-- the part follows these lines as it is, joined to none of them
abbrev pub StandsBehind : List Line → Part → Type 0
StandsBehind lines (idles n) = IsCount n × (joinable (last_line lines) ≡ None)
StandsBehind lines (spins n word) = IsCount n × (joinable (last_line lines) ≡ None) × (spinning word (last_line lines) ≡ None)
StandsBehind lines (tries word) = is_one_idle (last_line lines) ≡ false
StandsBehind lines (turn_of visits) = list_all is_idle visits ≡ false
StandsBehind lines (wait_of k) = Unit {0}
StandsBehind lines (call_of ps k a) = Unit {0}

abbrev pub StandBehind : List Line → List Part → Type 0
StandBehind lines [] = Unit {0}
StandBehind lines (p ∷ ps) = StandsBehind lines p × StandBehind (lines ++ part_lines p) ps
