use Rattle.std.proofs.Common.{◌≡◌}
use Rattle.std.specs.VecDeque.{deque_len}
use Rattle.shared_words.specs.declared.view.Role.TheVariants as role
use Rattle.split_ring.specs.Ends.{AreHeld, IsSound}
use Rattle.ring_bench.proofs.batch.give_all.Given as goal

abbrev pub invariant-loop-buffer : goal.invariant-loop-buffer
invariant-loop-buffer l = record { ring : l.device.ring ≡ l.on.ring; held : AreHeld role.Device l.device l.held.items; sound : IsSound role.Device l.device }

abbrev pub decreases-loop-buffer : goal.decreases-loop-buffer
decreases-loop-buffer l = deque_len l.held
