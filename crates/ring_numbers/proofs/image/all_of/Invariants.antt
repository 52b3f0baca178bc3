use Rattle.std.proofs.Common.{◌≡◌, ◌<◌}
use Rattle.std.specs.List.{All}
use Rattle.mc_base.specs.Limits.{buffer_size}
use Rattle.ring_numbers.specs.RingLists.{all_with}
use Rattle.ring_numbers.proofs.image.all_of.Given as goal

abbrev pub invariant-loop-number : goal.invariant-loop-number
invariant-loop-number l = (l.offers.items ≡ all_with buffer_size l.number) × All (λ e. e.0 < l.size) l.offers.items
