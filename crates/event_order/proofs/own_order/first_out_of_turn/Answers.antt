use Rattle.std.proofs.Common.{◌∙◌, sym, subst, ◌≡◌, ◌<◌, [], get_or, length, arith}
use Rattle.event_order.specs.OwnOrder.{IsOutOfTurn, in_turn}
use Rattle.event_order.specs.declared.event.Event.{Event}
use Rattle.event_order.specs.declared.event.What.TheVariants.{Put}
use Rattle.event_order.proofs.Steps.{all-passed, not-next, one-more, so-far}
use Rattle.event_order.proofs.own_order.first_out_of_turn.Goals as goal

pub returns-then-from-next-clause-some : goal.returns-then-from-next-clause-some
returns-then-from-next-clause-some c =
    let es = c.args.events.now in
    let n = c.loop-event.event-index in
    let e : Event = record { domain = 0; what = Put 0; number = 0; line = 0; place = 0 } in
    let at = c.loop-event.invariant.0 in
    let walk = c.loop-event.invariant.2 in
    let other : c.in-Answer.call ≡ c.loop-event.next → ⊥ = λ e. c.if-from-next.true (c.from.ensures ∙ e) in
    subst (λ p. (p < length es) × IsOutOfTurn es p) (sym at) (
      c.loop-event-test.true,
      record {
        before = sym (so-far (in_turn 0) es n) ∙ walk [];
        with_it = one-more (in_turn 0) es n e c.loop-event-test.true ∙ (walk _ ∙ not-next (get_or es n e) c.loop-event.next c.in-Answer.call _ c.in-Answer.is other);
      },
    )

pub returns-clause-none : goal.returns-clause-none
returns-clause-none c _ = sym (all-passed (in_turn 0) c.args.events.now c.loop-event.event-index (omega (arith, c.loop-event-test.false, c.loop-event.auto.event-index-end))) ∙ c.loop-event.invariant.2 []
