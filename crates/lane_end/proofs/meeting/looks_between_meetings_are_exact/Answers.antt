use Rattle.lane_end.proofs.ExactLemmas.{receives-exactly, sends-exactly}
use Rattle.lane_end.proofs.meeting.looks_between_meetings_are_exact.Goals as goal

pub returns-clause-receives : goal.returns-clause-receives
returns-clause-receives c = receives-exactly

pub returns-clause-sends : goal.returns-clause-sends
returns-clause-sends c = sends-exactly
