use Rattle.report_check.proofs.run.Run.turns.Given as goal

abbrev pub ghost-note_turns : goal.ghost-note_turns
ghost-note_turns g a = g.r.labels
