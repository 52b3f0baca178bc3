use Rattle.report_check.proofs.run.Run.meets_call.Given as goal

abbrev pub ghost-meets_behind : goal.ghost-meets_behind
ghost-meets_behind g a = g.r
