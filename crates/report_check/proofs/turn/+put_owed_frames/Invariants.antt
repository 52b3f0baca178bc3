use Rattle.report_check.proofs.turn.+put_owed_frames.Given as goal

abbrev pub decreases-put_owed_frames : goal.decreases-put_owed_frames
decreases-put_owed_frames l = l.most
