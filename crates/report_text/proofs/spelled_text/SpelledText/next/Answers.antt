use Rattle.std.proofs.Common.{arith}
use Rattle.report_text.specs.LaneLines.{lane_of}
use Rattle.report_text.proofs.SpelledLines.{first-fits, first-said, read-first, read-none}
use Rattle.report_text.proofs.spelled_text.SpelledText.next.Goals as goal

pub returns-in_default-clause-lanes : goal.returns-in_default-clause-lanes
returns-in_default-clause-lanes c = read-none c.args.self.text.now c.args.self.lines.now (omega (arith, c.in_default.len_below)) c.requires

pub returns-clause-lanes : goal.returns-clause-lanes
returns-clause-lanes c =
    first-said c.args.self.text.now _ c.split_at.result.1.now
    (read-first c.args.self.text.now c.split_at.result.1.now c.args.self.lines.now _ (omega (arith, c.in-len1-up.len_at_least)) c.requires c.split_at.ensures.back) lane_of

pub returns-clause-fits : goal.returns-clause-fits
returns-clause-fits c =
    first-fits c.args.self.text.now _ c.split_at.result.1.now
    (read-first c.args.self.text.now c.split_at.result.1.now c.args.self.lines.now _ (omega (arith, c.in-len1-up.len_at_least)) c.requires c.split_at.ensures.back)
