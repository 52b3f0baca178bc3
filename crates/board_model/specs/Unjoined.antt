-- The plain entries of a journal's lines. They need no state of the domain, only its peers and its script.
-- Source: docs/FORMATS.md, "Journal text". The last put lines before a call that succeeds in putting frames are the call's, as many
-- as it puts; a turn has the other lines that follow it. So the lines are read from the last to the first.
use Rattle.std.specs.Prelude.{ℕ, zero, suc, ◌-◌, nat_lt, List, [], ◌∷◌, ◌++◌, ◌==◌, if◌then◌else◌, length, map, sum_by, Option, Some, None, slice_get}
use Rattle.std.specs.List.{flat_map}
use Rattle.mc_base.specs.Pieces.{frames_of_size}
use Rattle.board_model.specs.declared.scenario.Call.{Call}
use Rattle.board_model.specs.declared.scenario.Call.TheVariants.{MsgSend, Connect, OpenSend, OpenRecv, PktSend, SclSend, CloseSend, CloseRecv, Raw}
use Rattle.board_model.specs.declared.scenario.CallLine.{CallLine}
use Rattle.board_model.specs.declared.scenario.DomainLine.{DomainLine}
use Rattle.board_model.specs.declared.scenario.Scenario.{Scenario}
use Rattle.board_model.specs.Scenario.{script, neighbours}
use Rattle.board_model.specs.Journal.{PlainAnswer, refuses, Taken, taken, Visit, PlainEntry, turned, put, again, waits, called, Line, idle_line, again_line, spin_line, turn_line, back_line, put_line, see_line, take_line, wait_line, call_line}

-- ---- the puts of a call

-- how many frames a call puts where it succeeds: a message or packet those that its bytes need
abbrev pub frames_put : Call → ℕ
frames_put (MsgSend port to priority bytes) = frames_of_size (length bytes)
frames_put (Connect port to kind) = 1
frames_put (OpenSend port kind) = 1
frames_put (OpenRecv port kind) = 1
frames_put (PktSend port bytes) = frames_of_size (length bytes)
frames_put (SclSend port bits value) = 1
frames_put (CloseSend port) = 1
frames_put (CloseRecv port) = 1
frames_put (Raw domain bytes) = 1
frames_put other = 0

-- the line of a script with this number, counted from 1
abbrev pub line_numbered : List CallLine → ℕ → Option CallLine
line_numbered lines zero = None
line_numbered lines (suc i) = slice_get lines i

-- how many frames a call puts, by its answer
abbrev pub puts_by : Call → PlainAnswer → ℕ
puts_by call (refuses word) = 0
puts_by call other = frames_put call

abbrev pub puts_of : Option CallLine → PlainAnswer → ℕ
puts_of None a = 0
puts_of (Some line) a = puts_by line.call a

-- ---- the lines of a turn

-- the part of a line that concerns a peer
abbrev pub back_in : ℕ → Line → ℕ
back_in p (back_line peer n) = if peer == p then n else 0
back_in p other = 0

abbrev pub owed_in : ℕ → Line → List (List ℕ)
owed_in p (put_line peer frame) = if peer == p then frame ∷ [] else []
owed_in p other = []

abbrev pub see_in : ℕ → Line → ℕ
see_in p (see_line peer n) = if peer == p then n else 0
see_in p other = 0

abbrev pub takes_in : ℕ → Line → List Taken
takes_in p (take_line peer frame fate) = if peer == p then taken frame fate ∷ [] else []
takes_in p other = []

-- the visit to a peer, by the lines of its turn. A look without a line showed nothing
abbrev pub visit_in : List Line → ℕ → Visit
visit_in lines p = record { peer = p; back = sum_by (back_in p) lines; owed = flat_map (owed_in p) lines; see = sum_by (see_in p) lines; takes = flat_map (takes_in p) lines }

abbrev pub turn_in : List ℕ → List Line → PlainEntry
turn_in peers lines = turned (map (visit_in lines) peers)

abbrev pub idle_turn : List ℕ → PlainEntry
idle_turn peers = turn_in peers []

-- ---- all lines

abbrev pub times : {A : Type 0} → ℕ → List A → List A
times zero xs = []
times (suc n) xs = xs ++ times n xs

-- what the lines from one on say: how many put lines before them are still a call's, which lines are still a turn's, and the entries
pub record Tail : Type 0 where
  pub due : ℕ
  pub behind : List Line
  pub entries : List PlainEntry

abbrev pub tail : ℕ → List Line → List PlainEntry → Tail
tail due behind entries = record { due = due; behind = behind; entries = entries }

-- one line more in front
abbrev pub with_line : List ℕ → List CallLine → Line → Tail → Tail
with_line peers script (idle_line n) t = tail 0 [] (times n (idle_turn peers ∷ []) ++ t.entries)
with_line peers script (again_line word) t = tail 0 [] (again word ∷ t.entries)
with_line peers script (spin_line n word) t = tail 0 [] (times n (idle_turn peers ∷ again word ∷ []) ++ t.entries)
with_line peers script turn_line t = tail 0 [] (turn_in peers t.behind ∷ t.entries)
with_line peers script (back_line p n) t = tail 0 (back_line p n ∷ t.behind) t.entries
with_line peers script (put_line p frame) t = if nat_lt 0 t.due then tail (t.due - 1) t.behind (put p frame ∷ t.entries) else tail 0 (put_line p frame ∷ t.behind) t.entries
with_line peers script (see_line p n) t = tail 0 (see_line p n ∷ t.behind) t.entries
with_line peers script (take_line p frame fate) t = tail 0 (take_line p frame fate ∷ t.behind) t.entries
with_line peers script (wait_line k) t = tail 0 [] (waits k ∷ t.entries)
with_line peers script (call_line k a) t = tail (puts_of (line_numbered script k) a) [] (called k a ∷ t.entries)

abbrev pub read_onto : List ℕ → List CallLine → List Line → Tail → Tail
read_onto peers script [] t = t
read_onto peers script (l ∷ ls) t = with_line peers script l (read_onto peers script ls t)

abbrev pub entries_in : List ℕ → List CallLine → List Line → List PlainEntry
entries_in peers script ls = (read_onto peers script ls (tail 0 [] [])).entries

abbrev pub peers_of : Scenario → DomainLine → List ℕ
peers_of s d = map (λ n. n.number) (neighbours s d)

-- the plain entries of the lines of a domain's journal
abbrev pub unjoined : Scenario → DomainLine → List Line → List PlainEntry
unjoined s d ls = entries_in (peers_of s d) (script s d.domain) ls
