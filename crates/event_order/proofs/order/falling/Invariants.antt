use Rattle.std.proofs.Common.{◌≡◌, ℕ, ◌<◌, None, IfSome, length, true}
use Rattle.event_order.specs.OwnOrder.{Falls, rise}
use Rattle.event_order.proofs.order.falling.Given as goal

abbrev pub invariant-loop-domain : goal.invariant-loop-domain
invariant-loop-domain l =
    (l.found ≡ None → (d : ℕ) → d < l.domain → rise d 0 l.events ≡ true)
    × IfSome l.found (λ p. (p < length l.events) × Falls l.events p)
