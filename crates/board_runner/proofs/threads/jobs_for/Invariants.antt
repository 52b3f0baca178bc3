use Rattle.board_runner.specs.Jobs.{AreJobs}
use Rattle.board_runner.proofs.threads.jobs_for.Given as goal

abbrev pub invariant-loop-station : goal.invariant-loop-station
invariant-loop-station g l = AreJobs l.scenario l.yielded l.jobs.items
