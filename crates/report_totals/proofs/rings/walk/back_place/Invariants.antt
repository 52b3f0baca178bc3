use Rattle.std.proofs.Common.{◌≡◌, ◌+◌, ◌≤◌, ℕ, List, [], ◌++◌, length}
use Rattle.board_model.specs.declared.scenario.Scenario.{Scenario}
use Rattle.report_text.specs.JournalRead.{JournalText}
use Rattle.report_text.specs.TextLines.{moved}
use Rattle.report_text.specs.Texts.{longest_line}
use Rattle.report_text.specs.LaneLines.{LaneLine, lanes_told}
use Rattle.report_text.specs.RingPass.{back_place, given_to}
use Rattle.report_totals.specs.SenderLanes.{AreAfter, FindTheirs}
use Rattle.report_totals.proofs.rings.walk.back_place.Given as goal

abbrev pub decreases-loop-entry : goal.decreases-loop-entry
decreases-loop-entry l = length l.rest

abbrev pub invariant-loop-entry : goal.invariant-loop-entry
invariant-loop-entry l = record {
  before : List LaneLine;
  told : lanes_told l.text ≡ before ++ lanes_told l.rest;
  lanes : (s : Scenario) (js : List JournalText) (domain : ℕ) → AreAfter s js domain [] l.fn.lanes → AreAfter s js domain before l.lanes;
  place : (s : Scenario) (js : List JournalText) (domain : ℕ) → AreAfter s js domain [] l.fn.lanes → FindTheirs s js domain (lanes_told l.text) → back_place (given_to s js domain) [] (lanes_told l.text) ≡ moved l.place (back_place (given_to s js domain) before (lanes_told l.rest));
  many : length l.lanes ≡ 8;
  fits : longest_line l.rest ≤ longest_line l.text;
  few : l.place + length l.rest ≤ length l.text;
}
