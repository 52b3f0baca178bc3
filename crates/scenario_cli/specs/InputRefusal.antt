-- What is written of a text that tells no relay or no numbered calls: the line that is refused, and its reason.
-- Source: docs/FORMATS.md, "Statuses", "Text of a relay" and "Text of numbered calls".
use Rattle.std.specs.Prelude.{◌≡◌, ℕ, List, Result, Err}
use Rattle.actor_lang.specs.InputFaults.{RefusedInput}
use Rattle.scenario_cli.specs.RefusedText.{input_refusal_text}

pub record IsInputRefusal {A : Type 0} (told : Result A RefusedInput) (output : List ℕ) : Type 0 where
  pub line : RefusedInput
  pub refused : told ≡ Err line
  pub written : output ≡ input_refusal_text line
