-- The text of an outcome that is not as expected.
use Rattle.std.proofs.Common.{◌≡◌, Bool, false, cond, [], ◌++◌, ap}
use Rattle.view_expect.specs.declared.comparing.Outcome.{Outcome}
use Rattle.view_expect.specs.Outcomes.{difference, outcome_line, outcome_text}

pub differs : (o : Outcome) → o.is_met ≡ false → outcome_text o ≡ outcome_line o ++ difference o
differs o e = ap (λ (t : Bool). outcome_line o ++ cond t [] (difference o)) e
