use Rattle.std.proofs.Common.{take}
use Rattle.std.specs.List.{flat_map}
use Rattle.outer_io.specs.Puts.{Puts}
use Rattle.board_model.specs.Grammar.{call_text}
use Rattle.scenario_lang.proofs.canonical.put_calls.Given as goal

abbrev pub invariant-loop-line : goal.invariant-loop-line
invariant-loop-line g l = Puts g.K.Sink l.initial.out l.out (flat_map call_text (take l.line-index l.calls))
