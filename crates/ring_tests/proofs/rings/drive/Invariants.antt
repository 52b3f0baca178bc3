use Rattle.std.proofs.Common.{◌≡◌, IfSome}
use Rattle.mc_base.specs.Stored.{Stored}
use Rattle.shared_words.specs.declared.view.Role.TheVariants as role
use Rattle.split_ring.specs.Ends.{HoldsBuffer}
use Rattle.ring_tests.proofs.rings.drive.Given as goal

abbrev pub invariant-loop : goal.invariant-loop
invariant-loop l = record {
  ring : l.driver.ring ≡ l.on.ring;
  held : IfSome l.hand (λ (b : Stored). HoldsBuffer role.Driver l.driver b);
}
