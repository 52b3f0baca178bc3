use Rattle.std.proofs.Common.{◌≡◌, List, ◌++◌, take}
use Rattle.event_order.specs.OwnOrder.{rise}
use Rattle.event_order.specs.declared.event.Event.{Event}
use Rattle.event_order.proofs.own_order.first_falling.Given as goal

abbrev pub invariant-loop-event : goal.invariant-loop-event
invariant-loop-event l =
    (l.place ≡ l.event-index)
    × ((es : List Event) → rise l.domain 0 (take l.event-index l.events ++ es) ≡ rise l.domain l.least es)
