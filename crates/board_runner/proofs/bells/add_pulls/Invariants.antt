use Rattle.std.specs.List.{AllByRecursion}
use Rattle.door_bell.specs.Shown.{IsRingerOf}
use Rattle.board_runner.proofs.bells.add_pulls.Given as goal

abbrev pub invariant-loop-ringer : goal.invariant-loop-ringer
invariant-loop-ringer l = AllByRecursion (IsRingerOf l.on) l.ringer-iterator.rest.items
