use Rattle.report_check.proofs.run.Run.tries.Given as goal

abbrev pub ghost-place : goal.ghost-place
ghost-place g a = g.r
