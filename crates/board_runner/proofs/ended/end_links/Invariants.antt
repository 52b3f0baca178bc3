use Rattle.std.specs.List.{AllByRecursion}
use Rattle.board_runner.specs.Ended.{EndMore, IsOverRings}
use Rattle.board_runner.proofs.ended.end_links.Given as goal

abbrev pub invariant-loop-link : goal.invariant-loop-link
invariant-loop-link l = record {
  so_far : EndMore l.owner l.yielded l.fn.ended.items l.ended.items;
  over : AllByRecursion IsOverRings l.link-iterator.rest.items;
}
