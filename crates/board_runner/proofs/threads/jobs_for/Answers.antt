use Rattle.std.proofs.Common.{[], ◌∷◌, ◌++◌, refl, sym, subst}
use Rattle.board_runner.specs.Jobs.{AreJobs}
use Rattle.board_runner.proofs.JobLemmas.{jobs_more}
use Rattle.board_runner.proofs.threads.jobs_for.Goals as goal

pub loop-station-preserved : goal.loop-station-preserved
loop-station-preserved g c =
    let s = c.args.scenario.now in
    subst (λ js. AreJobs s (c.loop-station.yielded ++ c.in-Some.station ∷ []) js) (sym c.in_ok-append.ensures)
    (jobs_more s c.loop-station.yielded c.loop-station.jobs.items c.in-Some.station _ c.loop-station.invariant refl refl)
