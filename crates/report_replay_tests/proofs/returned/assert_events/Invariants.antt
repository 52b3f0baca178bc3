use Rattle.board_model.proofs.StateEnds.{Ends}
use Rattle.report_replay_tests.proofs.returned.assert_events.Given as goal

abbrev pub invariant-loop-i : goal.invariant-loop-i
invariant-loop-i g l = Ends l.state
