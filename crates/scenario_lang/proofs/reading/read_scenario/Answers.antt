use Rattle.std.proofs.Common.{arith}
use Rattle.scenario_lang.proofs.FewCalls.{if_few, if_lawful}
use Rattle.scenario_lang.proofs.reading.read_scenario.Goals as goal

pub returns-clause-few : goal.returns-clause-few
returns-clause-few c = if_few c.args.text.now c.lines_told.result c.lines_told.ensures.told

pub returns-clause-lawful : goal.returns-clause-lawful
returns-clause-lawful c = if_lawful c.args.text.now c.lines_told.result (omega (arith, c.requires)) c.lines_told.ensures.told
