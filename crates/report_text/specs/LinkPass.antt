-- The third pass over a report: the first line of a journal that does not fit what the domain at the other end of its lane did.
-- Source: docs/PROFILE.md, "Lanes" and "Boards". A frame that is taken is the next one that the peer put; a look shows no more frames than the
-- peer puts in its whole journal, less those taken before; and no more buffers come back than the peer gives back in its whole journal.
use Rattle.std.specs.Prelude.{ℕ, ◌+◌, ◌==◌, Bool, true, false, List, [], ◌∷◌, ◌++◌, length, map, find, sum_by, nat_le, bytes_eq, slice_get, Option, None, Some, if◌then◌else◌}
use Rattle.std.specs.List.{flat_map}
use Rattle.board_model.specs.declared.scenario.Scenario.{Scenario}
use Rattle.board_model.specs.Board.{DomainJournal, given_back}
use Rattle.board_model.specs.Unjoined.{unjoined}
use Rattle.report_text.specs.TextLines.{moved, or_else}
use Rattle.report_text.specs.JournalRead.{JournalText, lines_of_texts}
use Rattle.report_text.specs.LaneLines.{LaneLine, came_back, puts, shows, takes, nothing, lane_lines, back_in, put_in, taken_in}

-- the journals that the texts tell
abbrev pub journal_told : Scenario → JournalText → DomainJournal
journal_told s j = record { line = j.line; entries = unjoined s j.line (lines_of_texts j.texts) }

-- how many buffers a domain gives back to another in its whole journal
abbrev pub gives_back : Scenario → List JournalText → ℕ → ℕ → ℕ
gives_back s js from to = given_back s (map (journal_told s) js) from to

-- the frames that a domain puts to another in its whole journal
abbrev pub lanes_in : Option JournalText → List LaneLine
lanes_in None = []
lanes_in (Some j) = lane_lines j

abbrev pub frames_put : List JournalText → ℕ → ℕ → List (List ℕ)
frames_put js from to = flat_map (put_in to) (lanes_in (find (λ j. j.line.domain == from) js))

-- ---- of the lines before: how many frames of a peer were taken, and how many buffers came back from it

abbrev pub taken_before : ℕ → List LaneLine → ℕ
taken_before peer before = sum_by (taken_in peer) before

abbrev pub back_before : ℕ → List LaneLine → ℕ
back_before peer before = sum_by (back_in peer) before

abbrev pub is_frame : List ℕ → Option (List ℕ) → Bool
is_frame frame None = false
is_frame frame (Some put) = bytes_eq frame put

-- a line of this domain's journal fits, behind the lines before it
abbrev pub fits : Scenario → List JournalText → ℕ → List LaneLine → LaneLine → Bool
fits s js d before (takes p frame) = is_frame frame (slice_get (frames_put js p d) (taken_before p before))
fits s js d before (shows p n) = nat_le (n + taken_before p before) (length (frames_put js p d))
fits s js d before (came_back p n) = nat_le (n + back_before p before) (gives_back s js p d)
fits s js d before (puts p frame) = true
fits s js d before nothing = true

abbrev pub link_place : Scenario → List JournalText → ℕ → List LaneLine → List LaneLine → Option ℕ
link_place s js d before [] = None
link_place s js d before (l ∷ ls) = if fits s js d before l then moved 1 (link_place s js d (before ++ l ∷ []) ls) else Some 0

abbrev pub wrong_link : Scenario → List JournalText → JournalText → Option ℕ
wrong_link s js j = moved j.number (link_place s js j.line.domain [] (lane_lines j))

-- in the first of these journals, among all
abbrev pub wrong_among : Scenario → List JournalText → List JournalText → Option ℕ
wrong_among s js [] = None
wrong_among s js (t ∷ ts) = or_else (wrong_link s js t) (wrong_among s js ts)
