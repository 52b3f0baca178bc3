-- The text of a report.
-- Source: docs/FORMATS.md, "Report".
use Rattle.std.specs.Prelude.{ℕ, List, [], ◌∷◌, ◌++◌, map, option_to_list, length, codes, decimal, nat_lt, if◌then◌else◌}
use Rattle.std.specs.List.{flat_map}
use Rattle.mc_base.specs.Text.{hex_text}
use Rattle.board_model.specs.declared.totals.Totals.{Totals}
use Rattle.board_model.specs.declared.totals.ChannelTotals.{ChannelTotals}
use Rattle.board_model.specs.declared.totals.LanePlaces.{LanePlaces}
use Rattle.board_model.specs.declared.scenario.DomainLine.{DomainLine}
use Rattle.board_model.specs.declared.scenario.Scenario.{Scenario}
use Rattle.board_model.specs.Scenario.{rising, lanes}
use Rattle.board_model.specs.Grammar.{line_of, canonical}
use Rattle.board_model.specs.Journal.{PlainResult, found_at, was_accepted, was_rejected, brought, ended_by, PlainAnswer, refuses, agrees, tells, connects, gives, completes, Line, idle_line, again_line, spin_line, turn_line, back_line, put_line, see_line, take_line, wait_line, call_line, joined}
use Rattle.board_model.specs.Words.{refusal_text, fate_text, reason_text}
use Rattle.board_model.specs.Board.{DomainJournal}
use Rattle.board_model.specs.Totals.{channel_totals, totals}
use Rattle.board_model.specs.Places.{places_of}

-- the words of how a request was completed. Where fewer bytes than the size were returned, it is truncated
abbrev pub result_words : PlainResult → List (List ℕ)
result_words (found_at address) = decimal address ∷ []
result_words was_accepted = codes "accepted" ∷ []
result_words (was_rejected reason) = codes "rejected" ∷ reason_text reason ∷ []
result_words (brought size bytes) = if nat_lt (length bytes) size then codes "truncated" ∷ decimal size ∷ hex_text bytes ∷ [] else decimal size ∷ hex_text bytes ∷ []
result_words (ended_by word) = refusal_text word ∷ []

-- the words of an answer. Where fewer bytes than the size were returned, it is truncated
abbrev pub answer_words : PlainAnswer → List (List ℕ)
answer_words (refuses word) = refusal_text word ∷ []
answer_words agrees = codes "ok" ∷ []
answer_words (tells n) = codes "ok" ∷ decimal n ∷ []
answer_words (connects request channel) = codes "ok" ∷ decimal request ∷ decimal channel ∷ []
answer_words (gives size bytes) = (if nat_lt (length bytes) size then codes "truncated" else codes "ok") ∷ decimal size ∷ hex_text bytes ∷ []
answer_words (completes place result) = codes "done" ∷ (map decimal (option_to_list place) ++ result_words result)

-- the words of a line of a journal
abbrev pub line_words : Line → List (List ℕ)
line_words (idle_line n) = codes "idle" ∷ decimal n ∷ []
line_words (again_line word) = codes "again" ∷ refusal_text word ∷ []
line_words (spin_line n word) = codes "spin" ∷ decimal n ∷ refusal_text word ∷ []
line_words turn_line = codes "turn" ∷ []
line_words (back_line peer n) = codes "back" ∷ decimal peer ∷ decimal n ∷ []
line_words (put_line peer frame) = codes "put" ∷ decimal peer ∷ hex_text frame ∷ []
line_words (see_line peer n) = codes "see" ∷ decimal peer ∷ decimal n ∷ []
line_words (take_line peer frame fate) = codes "take" ∷ decimal peer ∷ hex_text frame ∷ fate_text fate ∷ []
line_words (wait_line number) = codes "wait" ∷ decimal number ∷ []
line_words (call_line number answer) = codes "call" ∷ decimal number ∷ answer_words answer

abbrev pub line_text : Line → List ℕ
line_text l = line_of (line_words l)

abbrev pub lines_text : List Line → List ℕ
lines_text lines = flat_map line_text lines

-- a journal under its domain
abbrev pub journal_text : DomainLine → List Line → List ℕ
journal_text d lines = line_of (codes "journal" ∷ decimal d.domain ∷ []) ++ lines_text lines

abbrev pub journals_text : List DomainLine → List (List Line) → List ℕ
journals_text [] journals = []
journals_text (d ∷ ds) [] = []
journals_text (d ∷ ds) (lines ∷ journals) = journal_text d lines ++ journals_text ds journals

abbrev pub totals_words : Totals → List (List ℕ)
totals_words t = codes "accepted" ∷ decimal t.accepted ∷ codes "taken" ∷ decimal t.taken ∷ codes "dropped" ∷ decimal t.dropped ∷ codes "queued" ∷ decimal t.queued ∷ codes "ring" ∷ decimal t.ring ∷ []

abbrev pub messages_text : Totals → List ℕ
messages_text t = line_of (codes "messages" ∷ totals_words t)

abbrev pub places_text : LanePlaces → List ℕ
places_text p = line_of (codes "lane" ∷ decimal p.from ∷ decimal p.to ∷ codes "free" ∷ decimal p.free ∷ codes "ring" ∷ decimal p.ring ∷ codes "queue" ∷ decimal p.queue ∷ codes "lent" ∷ decimal p.lent ∷ [])

-- the line of a channel, by its owner and its number there
abbrev pub channel_text : ChannelTotals → List ℕ
channel_text c = line_of (codes "channel" ∷ decimal c.owner ∷ decimal c.number ∷ totals_words c.totals)

-- the lines of these channels, and that of the messages
abbrev pub summary_text : List ChannelTotals → Totals → List ℕ
summary_text channels messages = flat_map channel_text channels ++ messages_text messages

-- how the board was run: its domains by turns on one thread, or each on its own
pub data Mode : Type 0 where
  serial : Mode
  threads : Mode

abbrev pub heading : Mode → List ℕ
heading serial = codes "mcapi-report 1 serial\n"
heading threads = codes "mcapi-report 1 threads\n"

abbrev pub ending : List ℕ
ending = codes "end\n"

-- the report of a scenario with these journals, one for each domain in rising number, these channels, these numbers, and the lines of
-- these rings
unfoldable pub report_of : Mode → Scenario → List (List Line) → List ChannelTotals → Totals → List LanePlaces → List (List ℕ) → List ℕ
report_of mode s journals channels messages places rings =
    heading mode ++ (canonical s ++ (journals_text (rising s) journals ++ (summary_text channels messages ++ (flat_map places_text places ++ (flat_map (λ r. r) rings ++ ending)))))

abbrev pub lines_of : DomainJournal → List Line
lines_of j = joined j.entries

-- the report of a run of a scenario that left these journals, with the lines of these rings
abbrev pub report : Mode → Scenario → List DomainJournal → List (List ℕ) → List ℕ
report mode s js rings = report_of mode s (map lines_of js) (channel_totals s js) (totals s js) (map (places_of s js) (lanes s)) rings
