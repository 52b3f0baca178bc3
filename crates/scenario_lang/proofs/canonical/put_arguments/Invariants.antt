use Rattle.std.proofs.Common.{take}
use Rattle.std.specs.List.{flat_map}
use Rattle.outer_io.specs.Puts.{Puts}
use Rattle.scenario_lang.specs.CallFronts.{blank_then}
use Rattle.scenario_lang.proofs.canonical.put_arguments.Given as goal

abbrev pub invariant-loop-argument : goal.invariant-loop-argument
invariant-loop-argument g l = Puts g.K.Sink l.initial.out l.out (flat_map blank_then (take l.argument-index l.arguments))
