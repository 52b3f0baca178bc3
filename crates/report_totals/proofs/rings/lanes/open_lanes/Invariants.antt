use Rattle.std.proofs.Common.{◌≡◌, ℕ, List, [], Some, length}
use Rattle.std.specs.Prelude.{slice_get}
use Rattle.ring_numbers.specs.SenderNumbers.{Numbers}
use Rattle.report_text.specs.JournalRead.{JournalText}
use Rattle.report_totals.specs.SenderLanes.{AreJournals, numbers_after}
use Rattle.report_totals.proofs.rings.lanes.open_lanes.Given as goal

abbrev pub invariant-loop-receiver : goal.invariant-loop-receiver
invariant-loop-receiver l = record {
  many : length l.lanes.items ≡ l.receiver;
  each : (js : List JournalText) → AreJournals l.scenario js l.journals l.given → (peer : ℕ) (n : Numbers) → slice_get l.lanes.items peer ≡ Some n → n ≡ numbers_after l.scenario js l.sender [] peer;
}
