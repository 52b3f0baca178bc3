use Rattle.std.proofs.Common.{◌≡◌, take}
use Rattle.std.specs.List.{list_all}
use Rattle.mc_journal.specs.Spelled.{is_lower}
use Rattle.mc_journal.proofs.pieces.are_lower_digits.Given as goal

abbrev pub invariant-loop-i : goal.invariant-loop-i
invariant-loop-i l = l.all ≡ list_all is_lower (take l.i l.word)
