use Rattle.report_check.proofs.run.Run.calls.Given as goal

abbrev pub ghost-next_call : goal.ghost-next_call
ghost-next_call g a = g.r.labels

abbrev pub ghost-place_of_call : goal.ghost-place_of_call
ghost-place_of_call g a = g.r

abbrev pub ghost-make_call : goal.ghost-make_call
ghost-make_call g a = g.r.labels
