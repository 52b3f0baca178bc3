-- The lanes from a domain while its journal is read: the buffers of each by the lines that were read.
-- Source: docs/FORMATS.md, "Report".
use Rattle.std.specs.Prelude.{◌≡◌, ℕ, ◌<◌, ◌≤◌, ◌^◌, ◌==◌, List, [], ◌∷◌, length, find, slice_get, Some, unwrap_or, if◌then◌else◌}
use Rattle.std.specs.List.{AllByRecursion, flat_map}
use Rattle.mc_base.specs.Limits.{domain_limit}
use Rattle.board_model.specs.declared.scenario.Scenario.{Scenario}
use Rattle.board_model.specs.Given.{places_given}
use Rattle.board_numbers.specs.Lanes.{buffers_between}
use Rattle.ring_numbers.specs.SenderNumbers.{Numbers, Sending, comes_back, puts as puts_bytes, at_start, after_sending, after_all}
use Rattle.report_replay.specs.Naming.{names_for}
use Rattle.report_text.specs.declared.link_pass.JournalLines.{JournalLines}
use Rattle.report_text.specs.JournalRead.{JournalText}
use Rattle.report_text.specs.LaneLeft.{AreTold}
use Rattle.report_text.specs.LaneLines.{LaneLine, came_back, puts, lane_lines}
use Rattle.report_text.specs.LinkPass.{journal_told, lanes_in}
use Rattle.report_totals.specs.declared.rings.lanes.DomainLanes.{DomainLanes}
use Rattle.report_text.specs.RingPass.{given_to}

-- ---- which buffers are given back

-- by a journal, in lists by the peers' numbers
abbrev pub GivesBack : Scenario → JournalText → List (List ℕ) → Type 0
GivesBack s j g = (peer : ℕ) → peer < domain_limit → names_for peer g ≡ places_given s (journal_told s j) peer

-- by the journals at the same places
abbrev pub AreGiven : Scenario → List JournalText → List (List (List ℕ)) → Type 0
AreGiven s [] [] = Unit {0}
AreGiven s (j ∷ js) (g ∷ gs) = GivesBack s j g × AreGiven s js gs
AreGiven s js gs = ⊥

-- the journals of a report, with what their domains give back
pub record AreJournals (s : Scenario) (js : List JournalText) (cs : List JournalLines) (gs : List (List (List ℕ))) : Type 0 where
  pub told : AreTold js cs
  pub given : AreGiven s js gs

-- ---- the lanes from a domain, by what lines say of the lane to a peer

abbrev pub sent_on : ℕ → LaneLine → List Sending
sent_on p (came_back peer n) = if peer == p then comes_back n ∷ [] else []
sent_on p (puts peer frame) = if peer == p then puts_bytes (length frame) ∷ [] else []
sent_on p other = []

-- how many buffers the lane to a peer has, and none where there is no such lane
abbrev pub size_to : Scenario → ℕ → ℕ → ℕ
size_to s domain peer = unwrap_or (buffers_between s domain peer) 0

-- the buffers of the lane to a peer behind lines of the domain's journal
abbrev pub numbers_after : Scenario → List JournalText → ℕ → List LaneLine → ℕ → Numbers
numbers_after s js domain lines peer = after_all (at_start (size_to s domain peer) (given_to s js domain peer)) (flat_map (sent_on peer) lines)

-- of all lanes, by the numbers of the peers
pub record AreAfter (s : Scenario) (js : List JournalText) (domain : ℕ) (lines : List LaneLine) (ns : List Numbers) : Type 0 where
  pub many : length ns ≡ domain_limit
  pub each : (peer : ℕ) (n : Numbers) → slice_get ns peer ≡ Some n → n ≡ numbers_after s js domain lines peer

-- ---- lines that lanes allow

-- each frame finds a free buffer
abbrev pub FindBuffers : Numbers → List Sending → Type 0
FindBuffers n [] = Unit {0}
FindBuffers n (puts_bytes bytes ∷ es) = (0 < length n.free) × FindBuffers (after_sending n (puts_bytes bytes)) es
FindBuffers n (comes_back count ∷ es) = FindBuffers (after_sending n (comes_back count)) es

-- a frame's length can be counted
abbrev pub HasShortFrame : LaneLine → Type 0
HasShortFrame (puts peer frame) = length frame < 2 ^ 32
HasShortFrame other = Unit {0}

-- at the lanes from a domain
pub record FindTheirs (s : Scenario) (js : List JournalText) (domain : ℕ) (lines : List LaneLine) : Type 0 where
  pub buffers : (peer : ℕ) → peer < domain_limit → FindBuffers (at_start (size_to s domain peer) (given_to s js domain peer)) (flat_map (sent_on peer) lines)
  pub far : (peer : ℕ) → domain_limit ≤ peer → given_to s js domain peer ≡ []

abbrev pub AllFindTheirs : Scenario → List JournalText → List JournalText → Type 0
AllFindTheirs s js ts = AllByRecursion (λ t. FindTheirs s js t.line.domain (lane_lines t)) ts

-- ---- all domains

pub record IsWalked (s : Scenario) (js : List JournalText) (t : JournalText) (w : DomainLanes) : Type 0 where
  pub domain : w.domain ≡ t.line.domain
  pub lanes : AreAfter s js t.line.domain (lane_lines t) w.lanes.items

abbrev pub AreWalked : Scenario → List JournalText → List JournalText → List DomainLanes → Type 0
AreWalked s js [] [] = Unit {0}
AreWalked s js (t ∷ ts) (w ∷ ws) = IsWalked s js t w × AreWalked s js ts ws
AreWalked s js ts ws = ⊥

-- the numbers at the end of a domain's journal, by the lines of its text
abbrev pub numbers_told : Scenario → List JournalText → List JournalText → ℕ → ℕ → Numbers
numbers_told s js ts sender receiver = numbers_after s js sender (lanes_in (find (λ t. t.line.domain == sender) ts)) receiver
