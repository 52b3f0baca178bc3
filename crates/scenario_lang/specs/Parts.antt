-- The parts of a call line as a reader holds them.
-- Source: docs/FORMATS.md, "Scenario files": D.N [label =] [try K] call arguments.
use Rattle.std.specs.Prelude.{option_map}
use Rattle.board_model.specs.Forms.{CallParts as Parts}
use Rattle.scenario_lang.specs.declared.calls.CallParts.{CallParts}
use Rattle.scenario_lang.specs.Reading.{seen}

-- the parts, each as its bytes
abbrev pub read_parts : CallParts → Parts
read_parts p = record { domain = p.domain.now; node = p.node.now; told = option_map (λ w. w.now) p.told; tries = option_map (λ w. w.now) p.tries; callee = p.callee; arguments = seen p.arguments.now }
