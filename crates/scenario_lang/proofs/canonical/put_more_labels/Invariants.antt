use Rattle.std.proofs.Common.{take}
use Rattle.std.specs.List.{flat_map}
use Rattle.outer_io.specs.Puts.{Puts}
use Rattle.scenario_lang.specs.CallFronts.{comma_then}
use Rattle.scenario_lang.proofs.canonical.put_more_labels.Given as goal

abbrev pub invariant-loop-label : goal.invariant-loop-label
invariant-loop-label g l = Puts g.K.Sink l.initial.out l.out (flat_map comma_then (take l.label-index l.labels))
