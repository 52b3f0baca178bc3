use Rattle.std.proofs.Common.{ap, List, ℕ, Bor}
use Rattle.std.specs.Prelude.{option_map}
use Rattle.scenario_lang.proofs.LabelsKept.{kept-added}
use Rattle.scenario_lang.proofs.above.Above.add.Goals as goal

pub returns-in-Some-clause-keeps : goal.returns-in-Some-clause-keeps
returns-in-Some-clause-keeps c =
    kept-added _ _ _ _ _ _ c.args.line c.in-Some.label.now _ c.requires.label (ap (option_map (λ (w : Bor (List ℕ)). w.now)) c.in-Some.is) c.requires.gives c.in_ok-tell.ensures.requests c.in_ok-tell.ensures.packets c.requires.keeps c.push.ensures.labels c.push.ensures.told
