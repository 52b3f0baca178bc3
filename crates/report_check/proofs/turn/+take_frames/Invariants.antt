use Rattle.std.proofs.Common.{length}
use Rattle.report_check.proofs.turn.+take_frames.Given as goal

abbrev pub decreases-take_frames : goal.decreases-take_frames
decreases-take_frames l = length l.takes.now
