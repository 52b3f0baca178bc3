-- Logs: the lines that a domain called, in order, each with the answer of its last call.
-- Source: docs/PROFILE.md, "Logs".
use Rattle.std.specs.Prelude.{ℕ, List, [], ◌∷◌}
use Rattle.std.specs.List.{flat_map}
use Rattle.board_model.specs.declared.scenario.CallLine.{CallLine}
use Rattle.board_model.specs.declared.scenario.Scenario.{Scenario}
use Rattle.board_model.specs.Scenario.{script}
use Rattle.board_model.specs.Journal.{PlainEntry, turned, put, again, waits, called, PlainAnswer, gives, completes, PlainResult, brought, Line, call_line}
use Rattle.board_model.specs.Board.{DomainJournal}

-- a line with the answer of its last call
pub record LoggedCall : Type 0 where
  pub line : CallLine
  pub answer : PlainAnswer

abbrev pub logged : CallLine → PlainAnswer → LoggedCall
logged line answer = record { line = line; answer = answer }

-- the answer in an entry. A call that is made again is not the last of its line
abbrev pub answer_in : PlainEntry → List PlainAnswer
answer_in (turned visits) = []
answer_in (put peer frame) = []
answer_in (again word) = []
answer_in (waits k) = []
answer_in (called k a) = a ∷ []

-- the answers in a plain journal
abbrev pub answers_in : List PlainEntry → List PlainAnswer
answers_in entries = flat_map answer_in entries

-- the answer in a line of a written journal
abbrev pub answer_on : Line → List PlainAnswer
answer_on (call_line k a) = a ∷ []
answer_on other = []

-- the answers in a written journal
abbrev pub answers_on : List Line → List PlainAnswer
answers_on lines = flat_map answer_on lines

-- the bytes in an answer, of a message or packet
abbrev pub bytes_in_result : PlainResult → List ℕ
bytes_in_result (brought size bytes) = bytes
bytes_in_result other = []

abbrev pub bytes_answered : PlainAnswer → List ℕ
bytes_answered (gives size bytes) = bytes
bytes_answered (completes place result) = bytes_in_result result
bytes_answered other = []

-- lines with their answers, as far as both go
abbrev pub paired : List CallLine → List PlainAnswer → List LoggedCall
paired [] answers = []
paired (line ∷ lines) [] = []
paired (line ∷ lines) (a ∷ rest) = logged line a ∷ paired lines rest

-- the log of a domain: the lines of its script that were called, with the answers in its journal
abbrev pub log_of : Scenario → DomainJournal → List LoggedCall
log_of s j = paired (script s j.line.domain) (answers_in j.entries)
