use Rattle.report_check.proofs.run.Run.place_of_call.Given as goal

abbrev pub ghost-meets_next : goal.ghost-meets_next
ghost-meets_next g a = g.r
