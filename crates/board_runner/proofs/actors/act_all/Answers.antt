use Rattle.std.proofs.Common.{List, length, ap, sym, ◌∙◌, subst}
use Rattle.std.specs.Prelude.{IfOk, Result, slice_index_or}
use Rattle.mc_base.specs.declared.refusal.NoMemory.{NoMemory}
use Rattle.board_runner.specs.declared.acting.Acted.{Acted}
use Rattle.board_runner.specs.Acting.{HasActed}
use Rattle.board_runner.proofs.ActorJobLemmas.{jobs-acted, jobs-start, may-start-long}
use Rattle.board_runner.proofs.JobLemmas.{ok_weaker}
use Rattle.board_runner.proofs.actors.act_all.Goals as goal

pub actor_jobs-requires : goal.actor_jobs-requires
actor_jobs-requires g c = may-start-long g.A.Actor c.args.actors.items c.args.stations.items c.requires

pub run_actor_jobs-requires-after_bounds : goal.run_actor_jobs-requires-after_bounds
run_actor_jobs-requires-after_bounds g c κs within = jobs-start g.A.Actor c.args.actors.items c.args.stations.items c.in_ok-jobs.jobs.items c.in_ok-jobs.ensures c.requires

pub returns : goal.returns
returns g c =
    ok_weaker c.all_acted.result c.all_acted.ensures
    (λ v all.
    jobs-acted g.A.Actor c.args.actors.items c.args.stations.items c.in_ok-jobs.jobs.items v.items c.in_ok-jobs.ensures (ap length (sym all) ∙ c.in-Ok.ensures.len)
    (λ i j d below is. subst (λ (rs : List (Result (Acted _) NoMemory)). IfOk (slice_index_or rs i d) (HasActed g.A.Actor j.actor j.station)) all (c.in-Ok.ensures.acted i j d below is)))
