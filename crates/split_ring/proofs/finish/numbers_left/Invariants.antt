use Rattle.std.proofs.Common.{◌≡◌, ◌≤◌, vec_len, vec_capacity}
use Rattle.split_ring.specs.Left.{numbers_standing, between}
use Rattle.split_ring.proofs.finish.numbers_left.Given as goal

abbrev pub invariant-loop-n : goal.invariant-loop-n
invariant-loop-n l = record { items : l.out.items ≡ numbers_standing l.words l.size l.entries l.from l.n; len : vec_len l.out ≡ l.n; room : between l.from l.to ≤ vec_capacity l.out }
