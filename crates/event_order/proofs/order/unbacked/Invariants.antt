use Rattle.std.proofs.Common.{◌≡◌, ℕ, ◌<◌, None, IfSome, length}
use Rattle.event_order.specs.Causes.{AreBackedFrom, IsUnbacked}
use Rattle.event_order.proofs.order.unbacked.Given as goal

abbrev pub invariant-loop-sender : goal.invariant-loop-sender
invariant-loop-sender l =
    (l.found ≡ None → (p : ℕ) → p < l.sender → AreBackedFrom l.cause p l.events)
    × IfSome l.found (λ p. (p < length l.events) × IsUnbacked l.cause l.events p)
