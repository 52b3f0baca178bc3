use Rattle.report_check.proofs.run.Run.is_done.Given as goal

abbrev pub ghost-next_call : goal.ghost-next_call
ghost-next_call g a = g.ls
