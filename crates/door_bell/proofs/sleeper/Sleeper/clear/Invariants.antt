use Rattle.std.proofs.Common.{◌≡◌}
use Rattle.door_bell.specs.Shown.{with_view}
use Rattle.door_bell.specs.Change.{clearing_below}
use Rattle.door_bell.proofs.sleeper.Sleeper.clear.Given as goal

abbrev pub invariant-loop-number : goal.invariant-loop-number
invariant-loop-number l = l.self ≡ with_view (clearing_below l.number l.initial.self.view) l.initial.self
