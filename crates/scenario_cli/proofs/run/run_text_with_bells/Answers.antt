use Rattle.board_model.specs.Report.{threads}
use Rattle.scenario_cli.proofs.LeftLemmas.{if_left_threads}
use Rattle.scenario_cli.proofs.ModeForms.{fault-of}
use Rattle.scenario_cli.proofs.run.run_text_with_bells.Goals as goal

pub tell_run-requires-clause-left : goal.tell_run-requires-clause-left
tell_run-requires-clause-left g c = if_left_threads c.in-Ok.scenario c.run_bells-ran.result c.in-Ok.ensures.lawful c.run_bells-ran.ensures

pub returns-in-Ok : goal.returns-in-Ok
returns-in-Ok g c = c.tell_run.ensures c.args.text.now c.in-Ok.ensures.told

pub returns-in-Err : goal.returns-in-Err
returns-in-Err g c = c.tell_fault.ensures threads c.args.text.now (fault-of c.args.text.now c.in-Err.fault c.in-Err.ensures.refused)
