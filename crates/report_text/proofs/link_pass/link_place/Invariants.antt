use Rattle.std.proofs.Common.{◌≡◌, ◌+◌, ◌≤◌, [], List, length}
use Rattle.board_model.specs.declared.scenario.Scenario.{Scenario}
use Rattle.report_text.specs.JournalRead.{JournalText}
use Rattle.report_text.specs.TextLines.{moved}
use Rattle.report_text.specs.Texts.{longest_line}
use Rattle.report_text.specs.LaneLines.{LaneLine, lanes_told}
use Rattle.report_text.specs.LinkPass.{link_place}
use Rattle.report_text.specs.LaneLeft.{AreLeft, AreReady, HasFew}
use Rattle.report_text.proofs.link_pass.link_place.Given as goal

abbrev pub decreases-loop-entry : goal.decreases-loop-entry
decreases-loop-entry l = length l.rest

abbrev pub invariant-loop-entry : goal.invariant-loop-entry
invariant-loop-entry l = record {
  left : (s : Scenario) (js : List JournalText) → HasFew js → AreLeft s js l.journal.domain [] l.fn.lefts
      → (before : List LaneLine) × AreLeft s js l.journal.domain before l.lefts × (link_place s js l.journal.domain [] (lanes_told l.journal.text.now) ≡ moved l.place (link_place s js l.journal.domain before (lanes_told l.rest)));
  ready : AreReady (length l.peers_room) l.journal.domain l.lefts;
  fits : longest_line l.rest ≤ longest_line l.journal.text.now;
  few : l.place + length l.rest ≤ length l.journal.text.now;
}
