-- The lines of a journal that a runner counts: frames put and taken, and messages sent, brought and dropped.
-- Source: docs/FORMATS.md, "Journal text".
use Rattle.std.specs.Prelude.{ℕ, ◌-◌, Bool, true, false, ◌&&◌, ◌==◌, List, Option, None, Some, slice_get, if◌then◌else◌}
use Rattle.board_model.specs.declared.scenario.Call.{Call}
use Rattle.board_model.specs.declared.scenario.Call.TheVariants.{Delete}
use Rattle.board_model.specs.declared.scenario.CallLine.{CallLine}
use Rattle.board_model.specs.Journal.{Line, put_line, take_line, call_line, PlainAnswer, tells}
use Rattle.board_model.specs.Messages.{carries_message}
use Rattle.board_model.specs.Drops.{drops}

-- frames put to a peer, and taken from it
abbrev pub is_put_to : ℕ → Line → Bool
is_put_to n (put_line peer frame) = peer == n
is_put_to n other = false

abbrev pub is_taken_from : ℕ → Line → Bool
is_taken_from n (take_line peer frame fate) = peer == n
is_taken_from n other = false

-- whether a line is of a frame with a message that was put, of one that was taken, and of one that was taken and dropped
abbrev pub is_sent_line : Line → Bool
is_sent_line (put_line peer frame) = carries_message frame
is_sent_line other = false

abbrev pub is_brought_line : Line → Bool
is_brought_line (take_line peer frame fate) = carries_message frame
is_brought_line other = false

abbrev pub is_lost_line : Line → Bool
is_lost_line (take_line peer frame fate) = drops fate && carries_message frame
is_lost_line other = false

-- how many messages a delete dropped, by its line of the script and its answer
abbrev pub is_delete : Call → Bool
is_delete (Delete port) = true
is_delete other = false

abbrev pub deletes_line : Option CallLine → Bool
deletes_line None = false
deletes_line (Some line) = is_delete line.call

abbrev pub number_told : PlainAnswer → ℕ
number_told (tells n) = n
number_told other = 0

abbrev pub deleted_in : List CallLine → Line → ℕ
deleted_in lines (call_line k a) = if deletes_line (slice_get lines (k - 1)) then number_told a else 0
deleted_in lines other = 0
