use Rattle.std.proofs.Common.{◌≡◌, ◌++◌}
use Rattle.board_model.specs.LoadBoard.{exchanges}
use Rattle.scenario_lang.proofs.load.add_exchanges.Given as goal

abbrev pub invariant-loop-before : goal.invariant-loop-before
invariant-loop-before l = l.lines.items ≡ l.initial.lines.items ++ exchanges l.before
