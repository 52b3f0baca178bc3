use Rattle.std.proofs.Common.{◌≡◌}
use Rattle.std.specs.List.{All}
use Rattle.shared_words.specs.Entry.{Entry}
use Rattle.shared_words.specs.declared.view.Role.TheVariants as role
use Rattle.split_ring.specs.Ends.{HoldsBuffer}
use Rattle.trace_tests.proofs.rings.rounds.Given as goal

abbrev pub invariant-loop-done : goal.invariant-loop-done
invariant-loop-done l = record {
  driver : l.driver.ring ≡ l.on.ring;
  device : l.device.ring ≡ l.on.ring;
  held : HoldsBuffer role.Driver l.driver l.buffer;
  returned : All (λ (e : Entry). e.1 ≡ l.lengths.returned) l.device.written;
}
