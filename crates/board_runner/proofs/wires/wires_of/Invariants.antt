use Rattle.std.proofs.Common.{◌≡◌, ◌++◌, drop}
use Rattle.board_runner.specs.Wired.{AreRings, wires_for}
use Rattle.board_runner.proofs.wires.wires_of.Given as goal

abbrev pub invariant-loop-two : goal.invariant-loop-two
invariant-loop-two l = record {
  so_far : l.wires.items ++ wires_for (drop l.at l.links) (drop l.at l.rings) ≡ wires_for l.links l.rings;
  are : AreRings (drop l.at l.links) (drop l.at l.rings) l.two-iterator.rest.items;
}
