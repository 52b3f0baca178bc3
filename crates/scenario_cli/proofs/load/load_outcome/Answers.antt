use Rattle.std.proofs.Common.{subst}
use Rattle.board_model.specs.declared.scenario.Scenario.{Scenario}
use Rattle.board_model.specs.SerialRun.{serial_run}
use Rattle.board_runner.specs.Outcome.{IsOutcome}
use Rattle.scenario_cli.proofs.load.load_outcome.Goals as goal

pub returns : goal.returns
returns c = subst (λ (s : Scenario). IsOutcome s c.in_ok-outcome.outcome (serial_run s)) c.in_ok-board.ensures.board c.in_ok-outcome.ensures.told
