use Rattle.std.proofs.Common.{◌≡◌, ◌≤◌, ◌<◌, ◌+◌, ◌-◌, ◌*◌, ◌^◌, ℕ, List, ◌++◌, length, take, get_or}
use Rattle.std.specs.List.{AllByRecursion}
use Rattle.report_text.specs.LaneLines.{LaneLine, lanes_of}
use Rattle.report_text.specs.TextLines.{lines_in}
use Rattle.report_text.specs.SpelledTexts.{IsSpelledText}
use Rattle.report_text.specs.Texts.{lines_told, longest_line}
use Rattle.report_check.specs.ToldTurns.{AreToldPeers, HasShortLines}
use Rattle.report_check.specs.declared.told_turn.ToldPeer.{ToldPeer}
use Rattle.report_check.proofs.told_turn.read_told.Given as goal

abbrev pub invariant-loop-done : goal.invariant-loop-done
invariant-loop-done l = record {
  told : (before : List LaneLine) × (lanes_of (take l.lines (lines_in l.text.text.now)) ≡ before ++ lanes_of (take (l.lines - l._done) (lines_in l.rest.text.now))) × AreToldPeers l.peers before;
  back : (n : ℕ) (other : ToldPeer) → n < 8 → (get_or l.peers n other).back + 2 ^ 32 * (length l.rest.text.now + 1) ≤ 2 ^ 64;
  see : (n : ℕ) (other : ToldPeer) → n < 8 → (get_or l.peers n other).see + 2 ^ 32 * (length l.rest.text.now + 1) ≤ 2 ^ 64;
  fits : longest_line l.rest.text.now ≤ longest_line l.text.text.now;
  short : (size : ℕ) → longest_line l.text.text.now ≤ size → AllByRecursion (HasShortLines size) l.peers;
  enough : l.lines ≤ l._done + length (lines_told l.rest.text.now);
  spelled : IsSpelledText l.rest;
}
