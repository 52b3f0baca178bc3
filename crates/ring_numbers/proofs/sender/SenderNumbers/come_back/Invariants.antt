use Rattle.std.proofs.Common.{◌≡◌, ◌++◌, drop, map, take, true}
use Rattle.ring_numbers.specs.SenderNumbers.{are_put, number_at}
use Rattle.ring_numbers.proofs.sender.SenderNumbers.come_back.Given as goal

abbrev pub invariant-loop-buffer : goal.invariant-loop-buffer
invariant-loop-buffer l =
    (l.self-inside.used.items ≡ l.fn.self.used)
    × (l.self-inside.given.items ≡ drop l._buffer l.fn.self.given)
    × (l.self-inside.free.items ≡ l.fn.self.free ++ map (number_at l.fn.self.used) (take l._buffer l.fn.self.given))
    × (are_put l.fn.self l._buffer ≡ true)
