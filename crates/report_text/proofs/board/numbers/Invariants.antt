use Rattle.std.proofs.Common.{◌≡◌, map, take}
use Rattle.report_text.specs.Texts.{neighbours_of}
use Rattle.report_text.proofs.board.numbers.Given as goal

abbrev pub invariant-loop-neighbour : goal.invariant-loop-neighbour
invariant-loop-neighbour l = l.numbers.items ≡ map (λ n. n.number) (neighbours_of (take l.neighbour-index l.found))
