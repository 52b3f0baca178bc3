-- Calls counted one by one.
use Rattle.std.proofs.Common.{ℕ, ◌+◌, ◌≤◌, Option, None, Some, arith}
use Rattle.outer_io.specs.Calls.{CountsOne, CountsAtMost}

pub one_call_more : (a b c : Option ℕ) (n m : ℕ) → CountsAtMost a b n → CountsOne b c → n + 1 ≤ m → CountsAtMost a c m
one_call_more None b c n m p q l = tt
one_call_more (Some a) None c n m p q l = absurd p
one_call_more (Some a) (Some b) None n m p q l = absurd q
one_call_more (Some a) (Some b) (Some c) n m p q l = omega (arith, p, q)

-- no call is at most any number of calls
pub no_call : (a : Option ℕ) (n : ℕ) → CountsAtMost a a n
no_call None n = tt
no_call (Some a) n = omega arith

-- calls, and then more calls
pub calls_then : (a b c : Option ℕ) (n m k : ℕ) → CountsAtMost a b n → CountsAtMost b c m → n + m ≤ k → CountsAtMost a c k
calls_then None b c n m k p q l = tt
calls_then (Some a) None c n m k p q l = absurd p
calls_then (Some a) (Some b) None n m k p q l = absurd q
calls_then (Some a) (Some b) (Some c) n m k p q l = omega (arith, p, q)
