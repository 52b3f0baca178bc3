use Rattle.std.proofs.Common.{List, length, ap, sym, ◌∙◌, subst}
use Rattle.std.specs.Prelude.{IfOk, Result, slice_index_or}
use Rattle.mc_base.specs.declared.refusal.NoMemory.{NoMemory}
use Rattle.board_runner.specs.declared.station.Station.{Station}
use Rattle.board_runner.specs.Jobs.{RunsJob}
use Rattle.board_runner.proofs.JobLemmas.{ok_weaker, jobs_may, jobs_ran}
use Rattle.board_runner.proofs.threads.run_stations.Goals as goal

pub run_jobs-requires-after_bounds : goal.run_jobs-requires-after_bounds
run_jobs-requires-after_bounds g c κs within = jobs_may c.args.scenario.now c.requires.lawful c.args.stations.items c.in_ok-jobs.jobs.items c.in_ok-jobs.ensures c.requires.begin

pub returns : goal.returns
returns g c =
    ok_weaker c.all_of.result c.all_of.ensures
    (λ v all.
    jobs_ran c.args.scenario.now c.args.stations.items c.in_ok-jobs.jobs.items v.items c.in_ok-jobs.ensures (ap (λ (rs : List (Result Station NoMemory)). length rs) (sym all) ∙ c.in-Ok.ensures.len)
    (λ i j d below is. subst (λ (rs : List (Result Station NoMemory)). IfOk (slice_index_or rs i d) (RunsJob j)) all (c.in-Ok.ensures.ran i j d below is)))
