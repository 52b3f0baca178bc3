use Rattle.std.proofs.Common.{◌∙◌, sym, subst, ◌≡◌, ◌<◌, ◌+◌, [], get_or, take, length, true, false, arith}
use Rattle.event_order.specs.OwnOrder.{rise}
use Rattle.event_order.specs.declared.event.Event.{Event}
use Rattle.event_order.specs.declared.event.What.TheVariants.{Put}
use Rattle.event_order.proofs.Steps.{all-passed, not-rising, one-more, so-far}
use Rattle.event_order.proofs.own_order.first_falling.Goals as goal

pub returns-then-from-least-clause-some : goal.returns-then-from-least-clause-some
returns-then-from-least-clause-some c =
    let es = c.args.events.now in
    let d = c.args.domain in
    let n = c.loop-event.event-index in
    let e : Event = record { domain = 0; what = Put 0; number = 0; line = 0; place = 0 } in
    let at = c.loop-event.invariant.0 in
    let walk = c.loop-event.invariant.1 in
    let low = subst (λ k. k < c.loop-event.least) c.from.ensures c.if-from-least.true in
    subst (λ p. (p < length es) × (rise d 0 (take p es) ≡ true) × (rise d 0 (take (p + 1) es) ≡ false)) (sym at) (
      c.loop-event-test.true,
      sym (so-far (rise d 0) es n) ∙ walk [],
      one-more (rise d 0) es n e c.loop-event-test.true ∙ (walk _ ∙ not-rising (get_or es n e) d c.loop-event.least c.if-event-domain.true low),
    )

pub returns-clause-none : goal.returns-clause-none
returns-clause-none c _ = sym (all-passed (rise c.args.domain 0) c.args.events.now c.loop-event.event-index (omega (arith, c.loop-event-test.false, c.loop-event.auto.event-index-end))) ∙ c.loop-event.invariant.1 []
