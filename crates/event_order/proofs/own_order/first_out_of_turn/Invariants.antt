use Rattle.std.proofs.Common.{◌≡◌, List, ◌++◌, ◌≤◌, take}
use Rattle.event_order.specs.OwnOrder.{in_turn}
use Rattle.event_order.specs.declared.event.Event.{Event}
use Rattle.event_order.proofs.own_order.first_out_of_turn.Given as goal

abbrev pub invariant-loop-event : goal.invariant-loop-event
invariant-loop-event l =
    (l.place ≡ l.event-index)
    × (l.next ≤ l.event-index)
    × ((es : List Event) → in_turn 0 (take l.event-index l.events ++ es) ≡ in_turn l.next es)
