-- What a walk over lines of journals finds, whichever report they are of.
-- Source: docs/FORMATS.md, "How a report is checked".
use Rattle.std.specs.Prelude.{◌≡◌, ℕ, Bool, List, [], ◌∷◌, ◌++◌, Option}
use Rattle.board_model.specs.declared.scenario.Scenario.{Scenario}
use Rattle.ring_numbers.specs.SenderNumbers.{Numbers}
use Rattle.report_text.specs.declared.link_pass.JournalLines.{JournalLines}
use Rattle.report_text.specs.JournalRead.{JournalText}
use Rattle.report_text.specs.LaneLeft.{IsTold, AreTold}
use Rattle.report_text.specs.LaneLines.{LaneLine, lane_lines}
use Rattle.report_text.specs.RingPass.{given_to, is_back_of_put, back_place}
use Rattle.report_totals.specs.SenderLanes.{AreAfter, AreJournals, FindTheirs, AllFindTheirs}

-- whether a line fits, by the lanes behind the lines before it
abbrev pub TellsFit : LaneLine → List Numbers → Bool → Type 0
TellsFit line ns is = (s : Scenario) (js : List JournalText) (domain : ℕ) (before : List LaneLine) → AreAfter s js domain before ns → FindTheirs s js domain before → is ≡ is_back_of_put (given_to s js domain) before line

-- and the lanes behind it
abbrev pub LeadsOn : LaneLine → List Numbers → List Numbers → Type 0
LeadsOn line old new = (s : Scenario) (js : List JournalText) (domain : ℕ) (before : List LaneLine) → AreAfter s js domain before old → AreAfter s js domain (before ++ line ∷ []) new

-- the same of all lines of a domain's journal, whose lanes are new
abbrev pub TellsPlace : List LaneLine → List Numbers → Option ℕ → Type 0
TellsPlace lines ns place = (s : Scenario) (js : List JournalText) (domain : ℕ) → AreAfter s js domain [] ns → FindTheirs s js domain lines → place ≡ back_place (given_to s js domain) [] lines

abbrev pub LeadAlong : List LaneLine → List Numbers → List Numbers → Type 0
LeadAlong lines old new = (s : Scenario) (js : List JournalText) (domain : ℕ) → AreAfter s js domain [] old → AreAfter s js domain lines new

-- what holds of the texts of these journals and of one of them, where each frame finds a free buffer, or of some of them
abbrev pub HoldsOfOne : Scenario → List JournalLines → List (List (List ℕ)) → JournalLines → (List JournalText → JournalText → Type 0) → Type 0
HoldsOfOne s cs gs c P = (js : List JournalText) (t : JournalText) → AreJournals s js cs gs → IsTold t c → FindTheirs s js t.line.domain (lane_lines t) → P js t

abbrev pub HoldsOfSome : Scenario → List JournalLines → List (List (List ℕ)) → List JournalLines → (List JournalText → List JournalText → Type 0) → Type 0
HoldsOfSome s cs gs some P = (js ts : List JournalText) → AreJournals s js cs gs → AreTold ts some → AllFindTheirs s js ts → P js ts
