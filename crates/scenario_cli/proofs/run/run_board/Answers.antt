use Rattle.scenario_cli.proofs.LeftLemmas.{if_left_serial, if_left_threads}
use Rattle.scenario_cli.proofs.run.run_board.Goals as goal

pub returns-then-threads : goal.returns-then-threads
returns-then-threads g c = rw c.if-threads.true (if_left_threads c.args.scenario.now c.run_threads.result c.requires c.run_threads.ensures)

pub returns-else-threads : goal.returns-else-threads
returns-else-threads g c = rw c.if-threads.false (if_left_serial c.args.scenario.now c.run_serial.result c.requires c.run_serial.ensures.told c.run_serial.ensures.rings)
