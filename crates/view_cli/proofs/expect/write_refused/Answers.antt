use Rattle.std.proofs.Common.{rules}
use Rattle.report_view.proofs.TextSteps.{text_same, text_written}
use Rattle.view_cli.proofs.expect.write_refused.Goals as goal

pub returns : goal.returns
returns g c =
    let written = text_written g.K.Sink c.new-out.result c.put_refused.new.out _ c.finish.result c.new-out.ensures.sound c.new-out.ensures.empty c.put_refused.ensures c.finish.ensures in
    let all = rw c.new-out.ensures.sink at written in
    let same = text_same g.K.Sink _ _ c.put_refused.ensures in
    search rules
