use Rattle.std.proofs.Common.{◌≡◌, ◌≤◌, vec_len}
use Rattle.shared_words.specs.declared.view.Role.TheVariants as role
use Rattle.split_ring.specs.Ends.{AreHeld}
use Rattle.ring_tests.proofs.rings.offer_all.Given as goal

abbrev pub invariant-loop-buffer : goal.invariant-loop-buffer
invariant-loop-buffer l = record {
  ring : l.driver.ring ≡ l.on.ring;
  held : AreHeld role.Driver l.driver l.buffers.items;
  brief : l.len ≤ 63;
}

abbrev pub decreases-loop-buffer : goal.decreases-loop-buffer
decreases-loop-buffer l = vec_len l.buffers
