-- What events say, for one event more.
use Rattle.std.proofs.Common.{◌≡◌, List, [], ◌∷◌, ◌++◌, ap, ◌∙◌, append-nil}
use Rattle.std.specs.List.{flat_map}
use Rattle.std.proofs.lemmas.List.Concat.{flat_map-append}
use Rattle.event_order.specs.declared.event.Event.{Event}
use Rattle.report_events.specs.Events.{event_happenings}

pub one_more : (es : List Event) (e : Event) → flat_map event_happenings (es ++ e ∷ []) ≡ flat_map event_happenings es ++ event_happenings e
one_more es e = flat_map-append event_happenings es (e ∷ []) ∙ ap (λ hs. flat_map event_happenings es ++ hs) (append-nil (event_happenings e))
