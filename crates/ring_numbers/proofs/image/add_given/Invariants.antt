use Rattle.std.proofs.Common.{◌≡◌, ◌<◌, ◌++◌, take}
use Rattle.std.specs.List.{All}
use Rattle.ring_numbers.specs.RingLists.{given_with}
use Rattle.ring_numbers.proofs.image.add_given.Given as goal

abbrev pub invariant-loop-place : goal.invariant-loop-place
invariant-loop-place l = (l.offers.items ≡ l.initial.offers.items ++ given_with l.bytes l.used (take l.place-index l.given)) × All (λ e. e.0 < l._size) l.offers.items
