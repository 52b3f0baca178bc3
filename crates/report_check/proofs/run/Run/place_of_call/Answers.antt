use Rattle.std.proofs.Common.{ap, ◌∙◌}
use Rattle.report_text.specs.StepPass.{due_by, other_than}
use Rattle.report_check.specs.Runs.{told_by}
use Rattle.report_check.proofs.CallLines.{found-at}
use Rattle.report_check.proofs.run.Run.place_of_call.Goals as goal

pub returns : goal.returns
returns g c =
    c.place_after.ensures
    ∙ (found-at _ _ _ c.in_ok-met.met c.requires.1.1.1.1.0 c.in_ok-met.ensures
    ∙ ap (λ l. other_than (told_by c.args.times (due_by l g.r)) c.args.lines.now.texts) c.requires.1.1.0)
