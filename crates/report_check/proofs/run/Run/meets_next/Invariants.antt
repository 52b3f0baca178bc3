use Rattle.report_check.proofs.run.Run.meets_next.Given as goal

abbrev pub ghost-meets_call : goal.ghost-meets_call
ghost-meets_call g a = g.r
