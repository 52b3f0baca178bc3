use Rattle.std.proofs.Common.{◌≡◌, ◌<◌, ℕ, List, [], Some, length}
use Rattle.std.specs.Prelude.{slice_get}
use Rattle.board_model.specs.declared.scenario.Scenario.{Scenario}
use Rattle.report_text.specs.declared.link_pass.Left.{Left}
use Rattle.report_text.specs.JournalRead.{JournalText}
use Rattle.report_text.specs.LaneLeft.{AreShort, AreTold, GiveBack, IsLeft, IsReady}
use Rattle.report_text.specs.JournalLanes.{journals_of}
use Rattle.report_text.proofs.link_pass.lefts_of.Given as goal

abbrev pub invariant-loop-from : goal.invariant-loop-from
invariant-loop-from l = record {
  each : (s : Scenario) (js : List JournalText) → AreTold js (journals_of l.journals) → GiveBack s js l.given → (from : ℕ) (x : Left) → from < l.from → slice_get l.lefts from ≡ Some x → IsLeft s js l.to [] from x;
  ready : (room : ℕ) → AreShort room (journals_of l.journals) → (from : ℕ) (x : Left) → slice_get l.lefts from ≡ Some x → IsReady room l.to x;
  many : length l.lefts ≡ 8;
}
