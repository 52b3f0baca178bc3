use Rattle.std.proofs.Common.{◌≡◌}
use Rattle.door_bell.specs.Shown.{with_view}
use Rattle.door_bell.specs.Change.{finding}
use Rattle.door_bell.proofs.sleeper.Sleeper.arm.Given as goal

abbrev pub invariant-loop-next : goal.invariant-loop-next
invariant-loop-next l = l.self ≡ with_view (finding l.next l.fn.self.view) l.fn.self
