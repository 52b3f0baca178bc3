use Rattle.report_check.proofs.run.Run.note_turns.Given as goal

abbrev pub ghost-is_done : goal.ghost-is_done
ghost-is_done g a = g.ls
