use Rattle.std.proofs.Common.{take}
use Rattle.std.specs.List.{flat_map}
use Rattle.outer_io.specs.Puts.{Puts}
use Rattle.view_expect.specs.Outcomes.{outcome_text}
use Rattle.view_expect.proofs.tap.put_outcomes.Given as goal

abbrev pub invariant-loop-outcome : goal.invariant-loop-outcome
invariant-loop-outcome g l = Puts g.K.Sink l.initial.out l.out (flat_map outcome_text (take l.outcome-index l.outcomes))
