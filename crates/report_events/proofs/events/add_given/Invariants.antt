use Rattle.std.proofs.Common.{◌≡◌}
use Rattle.std.specs.List.{flat_map}
use Rattle.report_events.specs.Events.{event_happenings}
use Rattle.report_events.proofs.events.add_given.Given as goal

abbrev pub invariant-loop-peer : goal.invariant-loop-peer
invariant-loop-peer l = flat_map event_happenings l.events.items ≡ flat_map event_happenings l.initial.events.items
