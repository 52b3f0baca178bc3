use Rattle.std.proofs.Common.{◌≡◌, ◌≤◌, length}
use Rattle.report_text.specs.SpelledTexts.{IsSpelledText}
use Rattle.report_text.specs.Texts.{longest_line}
use Rattle.report_check.specs.NextParts.{texts_from}
use Rattle.report_check.specs.Runs.{script_of}
use Rattle.report_check.proofs.WayParts.{Walking, state_before}
use Rattle.report_check.proofs.part_walk.walk_parts.Given as goal

abbrev pub ghost-part : goal.ghost-part
ghost-part g a = state_before a.peers.now (script_of a.self.now) g.way a.text.text.now

abbrev pub decreases-loop-part : goal.decreases-loop-part
decreases-loop-part g l = length l.rest.text.now

abbrev pub invariant-loop-part : goal.invariant-loop-part
invariant-loop-part g l = record {
  walking : Walking l.peers (script_of l.fn.run) g.way l.text.text.now l.rest.text.now l.lines l.fn.run l.run;
  script : l.run.script ≡ l.fn.run.script;
  fits : longest_line l.rest.text.now ≤ longest_line l.text.text.now;
  shorter : length l.rest.text.now ≤ length l.text.text.now;
  few : length (texts_from l.text.text.now) ≤ length l.text.text.now;
  spelled : IsSpelledText l.rest;
}
