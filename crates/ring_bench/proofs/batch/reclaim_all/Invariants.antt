use Rattle.std.proofs.Common.{◌≡◌}
use Rattle.shared_words.specs.declared.view.Role.TheVariants as role
use Rattle.split_ring.specs.Ends.{AreHeld, IsSound}
use Rattle.ring_bench.proofs.batch.reclaim_all.Given as goal

abbrev pub invariant-loop : goal.invariant-loop
invariant-loop l = record { ring : l.driver.ring ≡ l.on.ring; held : AreHeld role.Driver l.driver l.free.items; sound : IsSound role.Driver l.driver }
