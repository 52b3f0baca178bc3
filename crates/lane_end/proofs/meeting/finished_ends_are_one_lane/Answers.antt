use Rattle.lane_end.proofs.MeetingLemmas.{finished-lane}
use Rattle.lane_end.proofs.meeting.finished_ends_are_one_lane.Goals as goal

pub returns : goal.returns
returns c = finished-lane
