use Rattle.std.proofs.Common.{◌≡◌, vec_len}
use Rattle.shared_words.specs.declared.view.Role.TheVariants as role
use Rattle.split_ring.specs.Ends.{AreHeld, IsSound}
use Rattle.ring_bench.proofs.batch.offer_new.Given as goal

abbrev pub invariant-loop-buffer : goal.invariant-loop-buffer
invariant-loop-buffer l = record { ring : l.driver.ring ≡ l.on.ring; held : AreHeld role.Driver l.driver l.buffers.items; sound : IsSound role.Driver l.driver }

abbrev pub decreases-loop-buffer : goal.decreases-loop-buffer
decreases-loop-buffer l = vec_len l.buffers
