-- What a report of a run on threads has to fit, beside what every report has to: a buffer comes back only after the frame was put that it
-- carried, and each ring is left with the image that the journals come to.
-- Source: docs/FORMATS.md, "Report" and "How a report is checked". Lanes without rings are asked too, those of domains to themselves.
use Rattle.std.specs.Prelude.{ℕ, Bool, true, nat_lt, List, [], ◌∷◌, ◌++◌, length, map, take, drop, Option, None, Some, if◌then◌else◌}
use Rattle.std.specs.List.{flat_map, list_all}
use Rattle.board_model.specs.declared.scenario.Scenario.{Scenario}
use Rattle.board_model.specs.Board.{DomainJournal}
use Rattle.ring_numbers.specs.BoardRings.{places_of, image_of_queue}
use Rattle.ring_numbers.specs.RingTexts.{ring_text}
use Rattle.report_text.specs.TextLines.{moved, or_else}
use Rattle.report_text.specs.JournalRead.{JournalText}
use Rattle.report_text.specs.LaneLines.{LaneLine, came_back, lane_lines, put_in}
use Rattle.report_text.specs.LinkPass.{back_before, journal_told}

-- a back line fits, behind the lines before it: the buffers that come back are those of frames that were put. `given` has, for each peer, the
-- places, among the frames put to it, of those whose buffers it gives back
abbrev pub is_back_of_put : (ℕ → List ℕ) → List LaneLine → LaneLine → Bool
is_back_of_put given before (came_back p n) = list_all (λ place. nat_lt place (length (flat_map (put_in p) before))) (take n (drop (back_before p before) (given p)))
is_back_of_put given before other = true

abbrev pub back_place : (ℕ → List ℕ) → List LaneLine → List LaneLine → Option ℕ
back_place given before [] = None
back_place given before (l ∷ ls) = if is_back_of_put given before l then moved 1 (back_place given (before ++ l ∷ []) ls) else Some 0

-- the places of the frames of a domain whose buffers a peer gives back, by these journals
abbrev pub given_to : Scenario → List JournalText → ℕ → ℕ → List ℕ
given_to s js domain peer = places_of s (map (journal_told s) js) peer domain

-- the first back line of a journal, one of these, that does not fit
abbrev pub wrong_back : Scenario → List JournalText → JournalText → Option ℕ
wrong_back s js j = moved j.number (back_place (given_to s js j.line.domain) [] (lane_lines j))

-- in the first of these journals that has one, among all
abbrev pub wrong_back_among : Scenario → List JournalText → List JournalText → Option ℕ
wrong_back_among s js [] = None
wrong_back_among s js (t ∷ ts) = or_else (wrong_back s js t) (wrong_back_among s js ts)

-- the lines of the rings of all links in their order: of each queue 0 and then queue 1
abbrev pub ring_texts : Scenario → List DomainJournal → List (List ℕ)
ring_texts s js = flat_map (λ l. ring_text l 0 (image_of_queue s js l 0) ∷ ring_text l 1 (image_of_queue s js l 1) ∷ []) s.links
