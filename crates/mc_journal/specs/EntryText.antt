-- The text of an entry, and which lines entries have.
-- Source: docs/FORMATS.md, "Journal text". A peer is a u8; a count of buffers or frames, the number of a line, a size, an
-- address and the number of a channel are a u32; a place is a u8; idle turns, tries and the number of an answer are a u64.
use Rattle.std.specs.Prelude.{ℕ, ◌<◌, ◌^◌, List, Option, None, Some}
use Rattle.std.specs.List.{AllByRecursion}
use Rattle.board_model.specs.Journal.{Line, PlainResult, found_at, was_accepted, was_rejected, brought, ended_by, PlainAnswer, refuses, agrees, tells, connects, gives, completes, idle_line, again_line, spin_line, turn_line, back_line, put_line, see_line, take_line, wait_line, call_line}
use Rattle.board_model.specs.Report.{line_text}
use Rattle.mc_journal.specs.declared.entry.Entry.{Entry}
use Rattle.mc_journal.specs.Entry.{line_of_entry}

-- the line of an entry as it is written, with its newline
abbrev pub entry_text : Entry → List ℕ
entry_text e = line_text (line_of_entry e)

abbrev pub AreBytes : List ℕ → Type 0
AreBytes bytes = AllByRecursion (λ b. b < 256) bytes

abbrev pub FitsResult : PlainResult → Type 0
FitsResult (found_at address) = address < 2 ^ 32
FitsResult was_accepted = Unit {0}
FitsResult (was_rejected reason) = Unit {0}
FitsResult (brought size bytes) = (size < 2 ^ 32) × AreBytes bytes
FitsResult (ended_by word) = Unit {0}

-- a place is that of a request among several, and none is that of one alone
abbrev pub FitsPlace : Option ℕ → Type 0
FitsPlace None = Unit {0}
FitsPlace (Some place) = place < 2 ^ 8

abbrev pub FitsAnswer : PlainAnswer → Type 0
FitsAnswer (refuses word) = Unit {0}
FitsAnswer agrees = Unit {0}
FitsAnswer (tells n) = n < 2 ^ 64
FitsAnswer (connects request channel) = (request < 2 ^ 64) × (channel < 2 ^ 32)
FitsAnswer (gives size bytes) = (size < 2 ^ 32) × AreBytes bytes
FitsAnswer (completes place result) = FitsPlace place × FitsResult result

-- the lines that entries have
abbrev pub IsEntryLine : Line → Type 0
IsEntryLine (idle_line n) = n < 2 ^ 64
IsEntryLine (again_line word) = Unit {0}
IsEntryLine (spin_line n word) = n < 2 ^ 64
IsEntryLine turn_line = Unit {0}
IsEntryLine (back_line peer n) = (peer < 2 ^ 8) × (n < 2 ^ 32)
IsEntryLine (put_line peer frame) = (peer < 2 ^ 8) × AreBytes frame
IsEntryLine (see_line peer n) = (peer < 2 ^ 8) × (n < 2 ^ 32)
IsEntryLine (take_line peer frame fate) = (peer < 2 ^ 8) × AreBytes frame
IsEntryLine (wait_line number) = number < 2 ^ 32
IsEntryLine (call_line number answer) = (number < 2 ^ 32) × FitsAnswer answer
