use Rattle.std.proofs.Common.{◌≡◌}
use Rattle.shared_words.specs.declared.view.Role.TheVariants as role
use Rattle.split_ring.specs.Ends.{AreHeld, IsSound}
use Rattle.ring_bench.proofs.each.rounds_of.Given as goal

abbrev pub invariant-loop-round : goal.invariant-loop-round
invariant-loop-round l = record {
  driver : l.driver.ring ≡ l.on.ring;
  device : l.device.ring ≡ l.on.ring;
  free : AreHeld role.Driver l.driver l.free.items;
  driver_sound : IsSound role.Driver l.driver;
}
