-- The serial run of a board: the lines are run in the file's order, and each look shows all there is to show. Between two calls of a
-- line with tries every other domain makes one turn, in rising number. A wait first tests; then, up to its limit, every domain makes one
-- turn, in rising number, and it tests again.
-- Source: docs/PROFILE.md, "Serial run" and "Tries".
use Rattle.std.specs.Prelude.{ℕ, ◌+◌, Bool, ◌==◌, zero, suc, List, [], ◌∷◌, ◌++◌, map, filter, not, find, Option, None, Some, if◌then◌else◌, false}
use Rattle.board_model.specs.declared.scenario.DomainLine.{DomainLine}
use Rattle.board_model.specs.declared.scenario.CallLine.{CallLine}
use Rattle.board_model.specs.declared.scenario.Scenario.{Scenario}
use Rattle.board_model.specs.Scenario.{script, lanes, rising}
use Rattle.board_model.specs.Journal.{PlainEntry, turned, again, waits, called, PlainAnswer, refuses}
use Rattle.mc_base.specs.declared.refusal.Refusal.{Refusal}
use Rattle.mc_base.specs.declared.refusal.Refusal.TheVariants.{Empty}
use Rattle.board_model.specs.Answer.{answer, puts}
use Rattle.board_model.specs.CallChanges.{returned}
use Rattle.board_model.specs.Step.{RunState, call_at, after, is_tried, limit_of, is_timeout}
use Rattle.board_model.specs.Run.{start}
use Rattle.board_model.specs.Board.{DomainJournal}
use Rattle.board_model.specs.Serial.{put_entry}
use Rattle.board_model.specs.Loads.{Load, empty_load, turn_of, loads_turned, loads_put, loads_given}

-- a domain partway through its script, with its journal so far
pub record Station : Type 0 where
  pub line : DomainLine
  pub run : RunState
  pub entries : List PlainEntry

-- the board: its domains in rising number, and what is on its lanes
pub record Running : Type 0 where
  pub stations : List Station
  pub loads : List Load

abbrev pub is_station : ℕ → Station → Bool
is_station d t = t.line.domain == d

abbrev pub opened_station : Scenario → DomainLine → Station
opened_station s d = record { line = d; run = start s d; entries = [] }

-- before the first line
abbrev pub opened : Scenario → Running
opened s = record { stations = map (opened_station s) (rising s); loads = map empty_load (lanes s) }

-- ---- entries

-- a domain's journal with one entry more
abbrev pub entered : Scenario → PlainEntry → Station → Station
entered s e t = record t { run = after (script s t.line.domain) t.run e; entries = t.entries ++ e ∷ [] }

abbrev pub with_entry : Scenario → ℕ → PlainEntry → Running → Running
with_entry s d e r = record r { stations = map (λ t. if is_station d t then entered s e t else t) r.stations }

abbrev pub with_entries : Scenario → ℕ → List PlainEntry → Running → Running
with_entries s d [] r = r
with_entries s d (e ∷ es) r = with_entries s d es (with_entry s d e r)

-- ---- turns

-- one turn of a domain
abbrev pub turned_by : Scenario → ℕ → Option Station → Running → Running
turned_by s d None r = r
turned_by s d (Some t) r = with_entry s d (turned (turn_of t.run.state r.loads)) (record r { loads = loads_turned t.run.state r.loads })

abbrev pub turned_once : Scenario → Running → ℕ → Running
turned_once s r d = turned_by s d (find (is_station d) r.stations) r

abbrev pub all_turned : Scenario → Running → List ℕ → Running
all_turned s r [] = r
all_turned s r (d ∷ ds) = all_turned s (turned_once s r d) ds

-- all domains in rising number, and all others
abbrev pub numbers : Scenario → List ℕ
numbers s = map (λ l. l.domain) (rising s)

abbrev pub others : Scenario → ℕ → List ℕ
others s d = filter (λ n. not (n == d)) (numbers s)

-- ---- calls, each after its turn

-- the frames that a call puts
abbrev pub loads_with_puts : ℕ → List (ℕ × List ℕ) → List Load → List Load
loads_with_puts d [] loads = loads
loads_with_puts d (p ∷ ps) loads = loads_with_puts d ps (loads_put d p.0 p.1 loads)

-- the last call of a line
abbrev pub called_by : Scenario → CallLine → Station → Running → Running
called_by s line t r =
    with_entries s line.domain
    (map put_entry (puts t.run.state line.node (call_at t.run line)) ++ called (t.run.lines_called + 1) (answer t.run.state line.node (call_at t.run line)) ∷ [])
    (record r { loads = loads_given line.domain (returned t.run.state line.node (call_at t.run line)) (loads_with_puts line.domain (puts t.run.state line.node (call_at t.run line)) r.loads) })

-- a call that is made again: its word, and then the others' turns
abbrev pub word_in : PlainAnswer → Refusal
word_in (refuses word) = word
word_in other = Empty

abbrev pub again_by : Scenario → CallLine → Station → Running → Running
again_by s line t r = all_turned s (with_entry s line.domain (again (word_in (answer t.run.state line.node (call_at t.run line)))) r) (others s line.domain)

-- whether the call of a line, in the state of its domain, is answered with a word with which it is made again
abbrev pub is_tried_at : CallLine → Station → Bool
is_tried_at line t = is_tried (answer t.run.state line.node (call_at t.run line))

-- a line whose call is made `more` times at most after the first
abbrev pub after_turn_of : Scenario → CallLine → Option Station → (Running → Running) → Running → Running
after_turn_of s line None next r = r
after_turn_of s line (Some t) next r = if is_tried_at line t then next (again_by s line t r) else called_by s line t r

abbrev pub last_call : Scenario → CallLine → Option Station → Running → Running
last_call s line None r = r
last_call s line (Some t) r = called_by s line t r

abbrev pub station_of : CallLine → Running → Option Station
station_of line r = find (is_station line.domain) r.stations

abbrev pub tried : Scenario → CallLine → ℕ → Running → Running
tried s line zero r = last_call s line (station_of line (turned_once s r line.domain)) (turned_once s r line.domain)
tried s line (suc more) r = after_turn_of s line (station_of line (turned_once s r line.domain)) (tried s line more) (turned_once s r line.domain)

-- how many calls a line may make after its first
abbrev pub more_calls : Option ℕ → ℕ
more_calls None = 0
more_calls (Some zero) = 0
more_calls (Some (suc n)) = n

-- ---- waits

-- whether all requests of a wait exist and none is complete, in the state of its domain
abbrev pub is_waiting_at : CallLine → Option Station → Bool
is_waiting_at line None = false
is_waiting_at line (Some t) = is_timeout (answer t.run.state line.node (call_at t.run line))

-- while none of its requests is complete a wait goes on, and else it is called
abbrev pub while_waiting : Scenario → CallLine → (Running → Running) → Running → Running
while_waiting s line next r = if is_waiting_at line (station_of line r) then next r else last_call s line (station_of line r) r

-- this many rounds at most, in each of which every domain makes a turn
abbrev pub rounds : Scenario → CallLine → ℕ → Running → Running
rounds s line zero r = last_call s line (station_of line r) r
rounds s line (suc more) r = while_waiting s line (rounds s line more) (all_turned s r (numbers s))

abbrev pub with_beginning : Scenario → CallLine → Option Station → Running → Running
with_beginning s line None r = r
with_beginning s line (Some t) r = with_entry s line.domain (waits (t.run.lines_called + 1)) r

abbrev pub wait_run : Scenario → CallLine → ℕ → Running → Running
wait_run s line limit r = while_waiting s line (λ b. rounds s line limit (with_beginning s line (station_of line b) b)) r

abbrev pub line_by : Scenario → CallLine → Option ℕ → Running → Running
line_by s line None r = tried s line (more_calls line.tries) r
line_by s line (Some limit) r = wait_run s line limit r

abbrev pub line_run : Scenario → Running → CallLine → Running
line_run s r line = line_by s line (limit_of line.call) r

abbrev pub lines_run : Scenario → Running → List CallLine → Running
lines_run s r [] = r
lines_run s r (line ∷ ls) = lines_run s (line_run s r line) ls

-- ---- the run

abbrev pub finished : Scenario → Running
finished s = lines_run s (opened s) s.calls

abbrev pub journal_left : Station → DomainJournal
journal_left t = record { line = t.line; entries = t.entries }

-- the journals of the serial run
abbrev pub serial_run : Scenario → List DomainJournal
serial_run s = map journal_left (finished s).stations
