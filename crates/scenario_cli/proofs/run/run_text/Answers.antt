use Rattle.board_runner.specs.Mode.{mode_of}
use Rattle.scenario_cli.proofs.ModeForms.{fault-of}
use Rattle.scenario_cli.proofs.run.run_text.Goals as goal

pub returns-in-Ok : goal.returns-in-Ok
returns-in-Ok g c = c.tell_run.ensures c.args.text.now c.in-Ok.ensures.told

pub returns-in-Err : goal.returns-in-Err
returns-in-Err g c = c.tell_fault.ensures (mode_of c.args.threads) c.args.text.now (fault-of c.args.text.now c.in-Err.fault c.in-Err.ensures.refused)
