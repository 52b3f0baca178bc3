use Rattle.std.proofs.Common.{◌≡◌, drop, find}
use Rattle.slab.specs.Slab.{get}
use Rattle.request_set.specs.Requests.{waits_at}
use Rattle.request_set.specs.InSet.{standing_in}
use Rattle.request_set.proofs.set.oldest_of.Given as goal

-- the oldest of the keys that are left is the oldest of all
abbrev pub invariant-loop-key : goal.invariant-loop-key
invariant-loop-key l =
    find (waits_at l.local) (standing_in (get l.slab) (drop l.key-index l.order)) ≡ find (waits_at l.local) (standing_in (get l.slab) l.order)
