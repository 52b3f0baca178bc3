use Rattle.call_logs.proofs.CallsGot.{never_full}
use Rattle.call_logs.proofs.laws.no_call_lacks_room.Goals as goal

pub returns : goal.returns
returns c = never_full
