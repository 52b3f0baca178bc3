-- What a journal does on lanes: the lines by which it puts frames, by their places in its text, and how many frames it takes.
-- Source: docs/FORMATS.md, "Journal text".
use Rattle.std.specs.Prelude.{◌≡◌, ℕ, ◌<◌, ◌==◌, List, [], ◌∷◌, drop, filter, map, slice_index, sum_by}
use Rattle.mc_base.specs.Limits.{domain_limit}
use Rattle.report_text.specs.declared.link_pass.JournalLines.{JournalLines}
use Rattle.report_text.specs.declared.journal_lanes.JournalLanes.{JournalLanes}
use Rattle.report_text.specs.declared.journal_lanes.PutLine.{PutLine}
use Rattle.report_text.specs.LaneLines.{LaneLine, puts, lanes_told, puts_told, taken_in}

-- the frame that the first of these lines puts, or no bytes
abbrev pub first_put : List LaneLine → List ℕ
first_put (puts peer frame ∷ ls) = frame
first_put ls = []

-- that of the line at a place of a text, counted in bytes
abbrev pub frame_at : List ℕ → ℕ → List ℕ
frame_at text place = first_put (lanes_told (drop place text))

-- the frames that these lines of a text put to a domain
abbrev pub frames_at : ℕ → List ℕ → List PutLine → List (List ℕ)
frames_at to text ls = map (λ l. frame_at text l.place) (filter (λ l. l.peer == to) ls)

-- the lines put the frames that the journal puts, and as many are taken from each peer as it takes
pub record HasLanes (l : JournalLanes) : Type 0 where
  pub puts : (to : ℕ) → frames_at to l.journal.text.now l.puts.items ≡ puts_told to l.journal.text.now
  pub takes : (p : ℕ) → p < domain_limit → slice_index l.takes p ≡ sum_by (taken_in p) (lanes_told l.journal.text.now)

abbrev pub journals_of : List JournalLanes → List JournalLines
journals_of all = map (λ l. l.journal) all
