use Rattle.std.proofs.Common.{◌≡◌}
use Rattle.std.specs.VecDeque.{deque_len}
use Rattle.shared_words.specs.declared.view.Role.TheVariants as role
use Rattle.split_ring.specs.Ends.{AreHeld}
use Rattle.ring_tests.proofs.rings.give_in_turn.Given as goal

abbrev pub invariant-loop-buffer : goal.invariant-loop-buffer
invariant-loop-buffer l = record { ring : l.device.ring ≡ l.on.ring; held : AreHeld role.Device l.device l.held.items }

abbrev pub decreases-loop-buffer : goal.decreases-loop-buffer
decreases-loop-buffer l = deque_len l.held
