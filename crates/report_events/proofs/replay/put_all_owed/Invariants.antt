use Rattle.board_model.proofs.StateEnds.{Ends}
use Rattle.report_events.proofs.replay.put_all_owed.Given as goal

abbrev pub invariant-loop-peer : goal.invariant-loop-peer
invariant-loop-peer l = Ends l.state
