use Rattle.std.specs.Prelude.{option_map}
use Rattle.std.proofs.Common.{ap, sym, ◌∙◌}
use Rattle.mc_journal.specs.Entry.{plain_answer}
use Rattle.call_actor.specs.ServerSteps.{going}
use Rattle.call_actor.proofs.following.follow.Goals as goal

pub returns-in-None-clause-step : goal.returns-in-None-clause-step
returns-in-None-clause-step c = c.begin.ensures c.args.role c.args.desk.now ∙ ap (λ t. going c.args.role c.args.place c.args.desk.now (option_map (λ a. plain_answer a.now) t)) (sym c.in-None.is)
