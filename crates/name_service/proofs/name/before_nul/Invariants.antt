use Rattle.std.proofs.Common.{◌≡◌, ℕ, ◌<◌, ◌==◌, true, get_or, not}
use Rattle.name_service.proofs.name.before_nul.Given as goal

-- No byte so far is NUL.
abbrev pub invariant-loop-i : goal.invariant-loop-i
invariant-loop-i l = (k : ℕ) → k < l.i → not (get_or l.bytes k 0 == 0) ≡ true
