use Rattle.std.proofs.Common.{List, sym, subst}
use Rattle.std.specs.Prelude.{IfOk, option_map}
use Rattle.board_model.specs.Logs.{LoggedCall}
use Rattle.mc_journal.specs.Entry.{plain_answer}
use Rattle.board_runner.specs.ActorLogs.{log_so_far}
use Rattle.hop_relay.specs.declared.relay_actor.RelayActor.{RelayActor}
use Rattle.hop_relay.specs.declared.relay_actor.RelayActor.TheVariants.{First}
use Rattle.hop_relay.specs.RelayActors.{FitsActor, line_asked}
use Rattle.hop_relay.proofs.relay_actor.RelayActorActor.next.Goals as goal

pub returns-in-First-clause-fits : goal.returns-in-First-clause-fits
returns-in-First-clause-fits c =
    subst (λ (a : RelayActor). IfOk c.next.result (λ line. (log : List LoggedCall) → FitsActor a log → FitsActor (First c.next.new.self) (log_so_far log (line_asked a) (option_map (λ b. plain_answer b.now) c.args.told))))
    (sym c.in-First.is) c.next.ensures.fits
