use Rattle.std.proofs.Common.{take}
use Rattle.board_runner.specs.Wired.{AreRings}
use Rattle.board_runner.proofs.rings.rings_of.Given as goal

abbrev pub invariant-loop-link : goal.invariant-loop-link
invariant-loop-link l = AreRings (take l.link-index l.links) l.rings.items l.halves.items
