use Rattle.std.proofs.Common.{◌≡◌, ℕ, ◌<◌, None, IfSome, length}
use Rattle.event_order.specs.Causes.{IsBacked, IsUnbacked}
use Rattle.event_order.proofs.order.unbacked_from.Given as goal

abbrev pub invariant-loop-receiver : goal.invariant-loop-receiver
invariant-loop-receiver l =
    (l.found ≡ None → (q : ℕ) → q < l.receiver → IsBacked l.cause (record { sender = l.sender; receiver = q }) l.events)
    × IfSome l.found (λ p. (p < length l.events) × IsUnbacked l.cause l.events p)
