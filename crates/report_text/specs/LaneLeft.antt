-- What is left of the lanes to a domain while its journal is read: the frames that each peer puts and that were not taken, and the buffers that
-- it gives back and that did not come back.
-- Source: docs/FORMATS.md, "Report".
use Rattle.std.specs.Prelude.{◌≡◌, ℕ, ◌+◌, ◌<◌, ◌≤◌, ◌^◌, Bool, true, false, List, [], ◌∷◌, length, bytes_eq, drop, slice_get, slice_index, slice_set, Option, None, Some}
use Rattle.std.specs.List.{AllByRecursion}
use Rattle.mc_base.specs.Limits.{domain_limit}
use Rattle.board_model.specs.declared.scenario.Scenario.{Scenario}
use Rattle.report_text.specs.declared.link_pass.JournalLines.{JournalLines}
use Rattle.report_text.specs.declared.link_pass.Left.{Left}
use Rattle.report_text.specs.declared.journal_lanes.PutLine.{PutLine}
use Rattle.report_text.specs.JournalRead.{JournalText, told_texts}
use Rattle.report_text.specs.TextLines.{lines_in}
use Rattle.report_text.specs.Texts.{longest_line}
use Rattle.report_text.specs.LaneLines.{LaneLine}
use Rattle.report_text.specs.JournalLanes.{frames_at}
use Rattle.report_text.specs.LinkPass.{frames_put, gives_back, taken_before, back_before, is_frame}

-- the lines of a journal of the report
pub record IsTold (j : JournalText) (c : JournalLines) : Type 0 where
  pub domain : j.line.domain ≡ c.domain
  pub number : j.number ≡ c.number
  pub texts : j.texts ≡ told_texts (lines_in c.text.now)

abbrev pub AreTold : List JournalText → List JournalLines → Type 0
AreTold [] [] = Unit {0}
AreTold (j ∷ js) (c ∷ cs) = IsTold j c × AreTold js cs
AreTold js cs = ⊥

-- none of its lines is longer, and they can be counted
pub record IsShort (room : ℕ) (c : JournalLines) : Type 0 where
  pub line : longest_line c.text.now ≤ room
  pub count : c.number + length c.text.now < 2 ^ 32

abbrev pub AreShort : ℕ → List JournalLines → Type 0
AreShort room cs = AllByRecursion (IsShort room) cs

-- the numbers are those of the buffers that each domain gives back to each other
abbrev pub GiveBack : Scenario → List JournalText → List (List ℕ) → Type 0
GiveBack s js given = (from to : ℕ) (row : List ℕ) → slice_get given from ≡ Some row → to < domain_limit → slice_index row to ≡ gives_back s js from to

-- the frames to a domain that are left
abbrev pub left_of : ℕ → Left → List (List ℕ)
left_of to l = frames_at to l.text.now l.puts.now

-- whether a frame is the first of them, and the lines behind that
abbrev pub PutsNext : ℕ → List ℕ → Left → Option (Bool × List PutLine) → Type 0
PutsNext to frame l None = left_of to l ≡ []
PutsNext to frame l (Some x) = (put : List ℕ) × (left_of to l ≡ put ∷ frames_at to l.text.now x.1) × (x.0 ≡ bytes_eq frame put)

-- a frame is the next one, and then it is left no more
pub record IsTaken (to : ℕ) (frame : List ℕ) (old new : Left) : Type 0 where
  pub next : is_frame frame (slice_get (left_of to old) 0) ≡ true
  pub frames : left_of to new ≡ drop 1 (left_of to old)
  pub count : new.count ≡ length (left_of to new)
  pub given : new.given ≡ old.given
  pub text : new.text ≡ old.text

abbrev pub TakesNext : ℕ → List ℕ → Left → Option Left → Type 0
TakesNext to frame old None = is_frame frame (slice_get (left_of to old) 0) ≡ false
TakesNext to frame old (Some new) = IsTaken to frame old new

-- so many buffers are left to come back, and then they are left no more
pub record HasCome (n : ℕ) (old new : Left) : Type 0 where
  pub given : new.given + n ≡ old.given
  pub text : new.text ≡ old.text
  pub puts : new.puts ≡ old.puts
  pub count : new.count ≡ old.count

abbrev pub ComesBack : ℕ → Left → Option Left → Type 0
ComesBack count old None = old.given < count
ComesBack count old (Some new) = HasCome count old new

-- what is left of one lane changes, where there is something
abbrev pub Changes : ℕ → Option Left → List Left → List Left → Bool → Type 0
Changes place None old new is = (is ≡ false) × (new ≡ old)
Changes place (Some l) old new is = (is ≡ true) × (new ≡ slice_set old place l)

-- of the lane from a peer, behind these lines
pub record IsLeft (s : Scenario) (js : List JournalText) (to : ℕ) (before : List LaneLine) (from : ℕ) (l : Left) : Type 0 where
  pub frames : left_of to l ≡ drop (taken_before from before) (frames_put js from to)
  pub few : taken_before from before ≤ length (frames_put js from to)
  pub count : l.count ≡ length (left_of to l)
  pub given : l.given + back_before from before ≡ gives_back s js from to

-- of all lanes, by the peers' numbers. Of a peer that has none nothing was told
pub record AreLeft (s : Scenario) (js : List JournalText) (to : ℕ) (before : List LaneLine) (ls : List Left) : Type 0 where
  pub each : (from : ℕ) (l : Left) → slice_get ls from ≡ Some l → IsLeft s js to before from l
  pub none_taken : (from : ℕ) → domain_limit ≤ from → taken_before from before ≡ 0
  pub none_back : (from : ℕ) → domain_limit ≤ from → back_before from before ≡ 0

-- the board has no domain with a greater number than 7
abbrev pub HasFew : List JournalText → Type 0
HasFew js = AllByRecursion (λ j. j.line.domain < domain_limit) js

-- no line in the text is longer, and the puts are counted
pub record IsReady (room to : ℕ) (l : Left) : Type 0 where
  pub line : longest_line l.text.now ≤ room
  pub count : l.count ≡ length (left_of to l)

abbrev pub AreReady : ℕ → ℕ → List Left → Type 0
AreReady room to ls = (from : ℕ) (l : Left) → slice_get ls from ≡ Some l → IsReady room to l
