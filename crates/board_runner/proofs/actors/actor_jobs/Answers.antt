use Rattle.std.proofs.Common.{◌≡◌, List, [], ◌∷◌, ◌++◌, rules, length, refl, sym, ap, subst, ◌∙◌, append_assoc}
use Rattle.board_runner.specs.declared.actors.ActorJob.{ActorJob}
use Rattle.board_runner.specs.declared.station.Station.{Station}
use Rattle.board_runner.specs.ActorJobs.{AreActorJobs}
use Rattle.board_runner.proofs.ActorJobLemmas.{JobsSoFar, all-jobs, none-left, one-job-more, one-left}
use Rattle.board_runner.proofs.actors.actor_jobs.Goals as goal

pub loop-station-init : goal.loop-station-init
loop-station-init g c =
    record {
      whole = search rules;
      jobs = subst (λ (js : List (ActorJob _)). JobsSoFar c.args.actors.items c.args.actors.items [] js) (sym c.new-jobs.ensures.items) (record { done = []; all = refl; jobs = tt });
    }

pub take_first-actor-requires : goal.take_first-actor-requires
take_first-actor-requires g c =
    let whole = ap (λ rest. c.loop-station.yielded ++ rest) (sym c.in-Some.ensures.steps.0) ∙ c.loop-station.invariant.whole in
    one-left c.args.actors.items c.loop-station.actors.items c.loop-station.yielded c.loop-station.jobs.items c.loop-station.invariant.jobs c.in-Some.station c.next.new.self.rest.items c.args.stations.items whole c.requires

pub loop-station-preserved : goal.loop-station-preserved
loop-station-preserved g c =
    let whole = ap (λ rest. c.loop-station.yielded ++ rest) (sym c.in-Some.ensures.steps.0) ∙ c.loop-station.invariant.whole in
    record {
      whole = append_assoc c.loop-station.yielded (c.in-Some.station ∷ []) c.next.new.self.rest.items ∙ whole;
      jobs =
          subst (λ (js : List (ActorJob _)). JobsSoFar c.args.actors.items c.take_first-actor.new.items.items (c.loop-station.yielded ++ c.in-Some.station ∷ []) js) (sym c.in_ok-append.ensures)
          (one-job-more c.args.actors.items c.loop-station.actors.items c.loop-station.yielded c.loop-station.jobs.items c.loop-station.invariant.jobs c.take_first-actor.result c.take_first-actor.new.items.items c.in-Some.station
          (record { actor = c.take_first-actor.result; station = c.in-Some.station }) c.take_first-actor.ensures refl refl);
    }

pub returns : goal.returns
returns g c =
    let none : length c.loop-station.station-iterator.rest.items ≡ 0 = search rules in
    let all = none-left c.loop-station.yielded c.loop-station.station-iterator.rest.items c.args.stations.items c.loop-station.invariant.whole none in
    subst (λ (sts : List Station). AreActorJobs c.args.actors.items sts c.loop-station.jobs.items) all
    (all-jobs c.args.actors.items c.loop-station.actors.items c.loop-station.yielded c.loop-station.jobs.items c.loop-station.invariant.jobs (c.requires ∙ ap length (sym all)))
