use Rattle.std.proofs.Common.{◌≡◌, ◌+◌, ◌-◌, ◌<◌, ◌≤◌, ◌++◌, ℕ, drop, length, sum_by}
use Rattle.std.specs.Prelude.{slice_index}
use Rattle.report_text.specs.LaneLines.{lanes_told, puts_told, taken_in}
use Rattle.report_text.specs.JournalLanes.{frames_at}
use Rattle.report_text.specs.Texts.{longest_line}
use Rattle.report_text.proofs.journal_lanes.read_lanes.Given as goal

abbrev pub decreases-loop-entry : goal.decreases-loop-entry
decreases-loop-entry l = length l.rest

abbrev pub invariant-loop-entry : goal.invariant-loop-entry
invariant-loop-entry l = record {
  puts : (to : ℕ) → frames_at to l.text l.puts.items ++ puts_told to l.rest ≡ puts_told to l.text;
  takes : (p : ℕ) → p < 8 → slice_index l.takes p + sum_by (taken_in p) (lanes_told l.rest) ≡ sum_by (taken_in p) (lanes_told l.text);
  few : (p : ℕ) → p < 8 → slice_index l.takes p + length l.rest ≤ length l.text;
  behind : l.rest ≡ drop (length l.text - length l.rest) l.text;
  shorter : length l.rest ≤ length l.text;
  fits : longest_line l.rest ≤ longest_line l.text;
}
