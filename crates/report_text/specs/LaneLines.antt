-- What a line of a journal says of the lane to a peer or from it.
-- Source: docs/FORMATS.md, "Journal text".
use Rattle.std.specs.Prelude.{ℕ, ◌==◌, List, [], ◌∷◌, map, Option, None, Some, if◌then◌else◌}
use Rattle.std.specs.List.{flat_map}
use Rattle.board_model.specs.Journal.{Line, back_line, put_line, see_line, take_line}
use Rattle.report_text.specs.TextLines.{lines_in}
use Rattle.report_text.specs.JournalRead.{JournalText, lines_of_texts, told_texts}

-- so many buffers came back from the peer; a frame was put to it; so many frames from it were shown; one was taken. Other lines say nothing
pub data LaneLine : Type 0 where
  came_back : ℕ → ℕ → LaneLine
  puts : ℕ → List ℕ → LaneLine
  shows : ℕ → ℕ → LaneLine
  takes : ℕ → List ℕ → LaneLine
  nothing : LaneLine

abbrev pub lane_of : Line → LaneLine
lane_of (back_line peer n) = came_back peer n
lane_of (put_line peer frame) = puts peer frame
lane_of (see_line peer n) = shows peer n
lane_of (take_line peer frame fate) = takes peer frame
lane_of other = nothing

abbrev pub lanes_of : List (List ℕ) → List LaneLine
lanes_of texts = map lane_of (lines_of_texts texts)

-- in a journal of a report
abbrev pub lane_lines : JournalText → List LaneLine
lane_lines j = lanes_of j.texts

-- ---- sums over such lines, for a peer

abbrev pub back_in : ℕ → LaneLine → ℕ
back_in p (came_back peer n) = if peer == p then n else 0
back_in p other = 0

abbrev pub put_in : ℕ → LaneLine → List (List ℕ)
put_in p (puts peer frame) = if peer == p then frame ∷ [] else []
put_in p other = []

abbrev pub taken_in : ℕ → LaneLine → ℕ
taken_in p (takes peer frame) = if peer == p then 1 else 0
taken_in p other = 0

-- ---- in the bytes of a text: the lines at its front, and the first of them with the text behind it

abbrev pub lanes_told : List ℕ → List LaneLine
lanes_told text = lanes_of (told_texts (lines_in text))

abbrev pub lanes_front : Option (LaneLine × List ℕ) → List LaneLine
lanes_front None = []
lanes_front (Some x) = x.0 ∷ lanes_told x.1

-- the frames that the journal at the front of a text puts to a domain
abbrev pub puts_told : ℕ → List ℕ → List (List ℕ)
puts_told to text = flat_map (put_in to) (lanes_told text)
