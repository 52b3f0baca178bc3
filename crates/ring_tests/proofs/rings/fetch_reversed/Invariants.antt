use Rattle.std.proofs.Common.{◌≡◌}
use Rattle.shared_words.specs.declared.view.Role.TheVariants as role
use Rattle.split_ring.specs.Ends.{AreHeld, IsSound}
use Rattle.ring_tests.proofs.rings.fetch_reversed.Given as goal

abbrev pub invariant-loop : goal.invariant-loop
invariant-loop l = record { ring : l.device.ring ≡ l.on.ring; held : AreHeld role.Device l.device l.held.items; sound : IsSound role.Device l.device }
