use Rattle.std.proofs.Common.{◌≡◌, IfSome}
use Rattle.mc_base.specs.Stored.{Stored}
use Rattle.shared_words.specs.declared.view.Role.TheVariants as role
use Rattle.split_ring.specs.Ends.{HoldsBuffer}
use Rattle.ring_tests.proofs.rings.rounds.Given as goal

abbrev pub invariant-loop-done : goal.invariant-loop-done
invariant-loop-done l = record {
  driver : l.driver.ring ≡ l.on.ring;
  device : l.device.ring ≡ l.on.ring;
  held : IfSome l.hand (λ (b : Stored). HoldsBuffer role.Driver l.driver b);
}
