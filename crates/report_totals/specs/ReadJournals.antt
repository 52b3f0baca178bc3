-- The journals of a report that were read, with the buffers of the lanes from each domain at its journal's end, and the images that they come to.
-- Source: docs/FORMATS.md, "Report" and "Images of rings".
use Rattle.std.specs.Prelude.{◌≡◌, ℕ, ◌<◌, ◌≤◌, ◌==◌, List, if◌then◌else◌}
use Rattle.std.specs.List.{AllByRecursion}
use Rattle.mc_base.specs.Limits.{domain_limit, link_limit}
use Rattle.board_model.specs.declared.scenario.LinkLine.{LinkLine}
use Rattle.board_model.specs.declared.scenario.Scenario.{Scenario}
use Rattle.ring_numbers.specs.RingLists.{image_left}
use Rattle.report_text.specs.JournalRead.{JournalText}
use Rattle.report_totals.specs.declared.rings.images.ReadJournals.{ReadJournals}
use Rattle.report_text.specs.RingPass.{given_to}
use Rattle.report_totals.specs.SenderLanes.{AreJournals, AreWalked, numbers_told, size_to}

pub record Reads (s : Scenario) (js : List JournalText) (r : ReadJournals) : Type 0 where
  pub journals : AreJournals s js r.journals.now r.given.now
  pub walked : AreWalked s js js r.lanes.now

-- the two lanes of a link have as many buffers as the link's size
pub record IsSized (s : Scenario) (l : LinkLine) : Type 0 where
  pub forth : size_to s l.driver l.device ≡ l.size
  pub back : size_to s l.device l.driver ≡ l.size
  pub driver : l.driver < domain_limit
  pub device : l.device < domain_limit
  pub some_buffers : 1 ≤ l.size
  pub buffers_fit : l.size ≤ link_limit

-- they are those of a board with these links, or with such a lane
pub record ReadsLinks (ls : List LinkLine) (r : ReadJournals) : Type 0 where
  pub scenario : Scenario
  pub texts : List JournalText
  pub reads : Reads scenario texts r
  pub sized : AllByRecursion (IsSized scenario) ls

pub record ReadsLane (r : ReadJournals) (size from to : ℕ) : Type 0 where
  pub scenario : Scenario
  pub texts : List JournalText
  pub reads : Reads scenario texts r
  pub sized : size_to scenario from to ≡ size
  pub sender : from < domain_limit
  pub receiver : to < domain_limit
  pub some_buffers : 1 ≤ size
  pub buffers_fit : size ≤ link_limit

-- the image of a ring, by the lines of the texts
abbrev pub ring_told : Scenario → List JournalText → ℕ → ℕ → ℕ → ℕ → List ℕ
ring_told s js queue sender receiver size = image_left size queue (numbers_told s js js sender receiver).used (given_to s js sender receiver)

abbrev pub image_told : Scenario → List JournalText → LinkLine → ℕ → List ℕ
image_told s js l queue = if queue == 0 then ring_told s js 0 l.device l.driver l.size else ring_told s js 1 l.driver l.device l.size
