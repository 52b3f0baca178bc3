use Rattle.std.proofs.Common.{◌≡◌, ◌+◌, ◌≤◌, length}
use Rattle.report_text.specs.TextLines.{moved}
use Rattle.report_text.specs.JournalOrder.{place_behind, journal_place}
use Rattle.report_text.specs.Texts.{lines_told, lines_behind, longest_line}
use Rattle.report_text.proofs.journal.read_entries.Given as goal

abbrev pub decreases-loop-lines : goal.decreases-loop-lines
decreases-loop-lines l = length l.text

abbrev pub invariant-loop-lines : goal.invariant-loop-lines
invariant-loop-lines l = record {
  place : moved l.number (place_behind l.peers l.puts l.turn l.last (lines_told l.text)) ≡ moved l.unread.number (journal_place l.peers l.puts (lines_told l.unread.text.now));
  count : l.number + length (lines_told l.text) ≡ l.unread.number + length (lines_told l.unread.text.now);
  behind : lines_behind l.text ≡ lines_behind l.unread.text.now;
  longest : longest_line l.text ≤ longest_line l.unread.text.now;
  few : l.number + length l.text ≤ l.unread.number + length l.unread.text.now;
  shorter : length l.text ≤ length l.unread.text.now;
}
