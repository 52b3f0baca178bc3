-- The deeds of a journal. A taken frame is named by its place among the frames taken from its peer, counted from 0.
-- Source: docs/PROFILE.md, "Runs".
use Rattle.std.specs.Prelude.{ℕ, ◌+◌, List, [], ◌∷◌, ◌++◌, length, Option, None, Some}
use Rattle.std.specs.List.{flat_map}
use Rattle.board_model.specs.declared.scenario.CallLine.{CallLine}
use Rattle.board_model.specs.declared.scenario.Scenario.{Scenario}
use Rattle.board_model.specs.Scenario.{script, neighbours}
use Rattle.board_model.specs.Journal.{PlainEntry, turned, put, again, waits, called, PlainAnswer, refuses, Visit}
use Rattle.board_model.specs.State.{DomainState, opening}
use Rattle.board_model.specs.Step.{RunState, next_line, call_at, after}
use Rattle.board_model.specs.Run.{start}
use Rattle.board_model.specs.Turn.{visit_deeds}
use Rattle.board_model.specs.Traffic.{taken_from}
use Rattle.board_model.specs.Board.{DomainJournal}
use Rattle.board_model.specs.Deeds.{Deed, calls, after_deeds}

-- the names of frames, after this many were taken
abbrev pub names_from : ℕ → ℕ → Option ℕ
names_from first k = Some (first + k)

-- a visit, after the entries before it
abbrev pub named_deeds : List PlainEntry → Visit → List Deed
named_deeds before v = visit_deeds (names_from (length (taken_from v.peer before))) v

-- the call of the next line, with its answer
abbrev pub call_deeds : Option CallLine → RunState → PlainAnswer → List Deed
call_deeds None r a = []
call_deeds (Some line) r a = calls line.node (call_at r line) a ∷ []

-- an entry. A call that is made again is a deed too; the frames that a call puts are of the call's deed, and where a wait begins nothing
-- is done
abbrev pub entry_deeds : List CallLine → List PlainEntry → RunState → PlainEntry → List Deed
entry_deeds script before r (turned visits) = flat_map (named_deeds before) visits
entry_deeds script before r (put peer frame) = []
entry_deeds script before r (again word) = call_deeds (next_line script r) r (refuses word)
entry_deeds script before r (waits k) = []
entry_deeds script before r (called k a) = call_deeds (next_line script r) r a

-- entries, after those before them
abbrev pub deeds_along : List CallLine → List PlainEntry → RunState → List PlainEntry → List Deed
deeds_along script before r [] = []
deeds_along script before r (e ∷ es) = entry_deeds script before r e ++ deeds_along script (before ++ e ∷ []) (after script r e) es

-- the deeds of a domain's journal
abbrev pub deeds_of : Scenario → DomainJournal → List Deed
deeds_of s j = deeds_along (script s j.line.domain) [] (start s j.line) j.entries

-- the state in which they begin, and the one that they leave
abbrev pub opened : Scenario → DomainJournal → DomainState
opened s j = opening j.line.domain j.line.nodes (neighbours s j.line)

abbrev pub left_in : Scenario → DomainJournal → DomainState
left_in s j = after_deeds (opened s j) (deeds_of s j)
