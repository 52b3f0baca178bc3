use Rattle.std.proofs.Common.{take}
use Rattle.std.specs.List.{flat_map}
use Rattle.outer_io.specs.Puts.{Puts}
use Rattle.picture_text.specs.Markup.{attribute}
use Rattle.picture_text.proofs.svg.put_numbers.Given as goal

abbrev pub invariant-loop-number : goal.invariant-loop-number
invariant-loop-number g l = Puts g.K.Sink l.initial.out l.out (flat_map attribute (take l.number-index l.numbers))
