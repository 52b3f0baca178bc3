use Rattle.std.proofs.Common.{◌<◌, IfSome}
use Rattle.event_order.proofs.schedule.Schedule.next_domain.Given as goal

abbrev pub invariant-loop-domain : goal.invariant-loop-domain
invariant-loop-domain l = IfSome l.best (λ d. d < 8)
