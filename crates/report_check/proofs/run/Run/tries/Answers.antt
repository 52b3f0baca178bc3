use Rattle.std.proofs.Common.{[], sym, subst}
use Rattle.report_check.specs.NamedStates.{GoesOn}
use Rattle.report_check.specs.Runs.{IsAt, tries_made}
use Rattle.report_check.specs.declared.run.Run.{Run}
use Rattle.report_check.proofs.NamedLemmas.{goes-nothing}
use Rattle.report_check.proofs.RunSteps.{tried-at}
use Rattle.report_check.proofs.run.Run.tries.Goals as goal

pub returns-clause-run : goal.returns-clause-run
returns-clause-run g c word = record {
  at = subst (λ (x : Run). IsAt x (tries_made 1 g.r)) (sym c.note_tries.ensures) (tried-at 1 c.args.self.now g.r c.requires.0);
  deeds = subst (λ (x : Run). GoesOn c.args.self.now.state x.state []) (sym c.note_tries.ensures) (goes-nothing c.args.self.now.state);
}
