use Rattle.std.proofs.Common.{drop}
use Rattle.board_runner.specs.Bells.{HaveParts}
use Rattle.board_runner.proofs.bells.paces_of.Given as goal

abbrev pub invariant-loop-own : goal.invariant-loop-own
invariant-loop-own g l = HaveParts (drop l.at l.bells) l.own-iterator.rest.items
