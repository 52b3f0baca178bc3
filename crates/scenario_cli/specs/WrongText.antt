-- What is written where an input is wrong: the place and the reason.
-- Source: docs/FORMATS.md, "Statuses".
use Rattle.std.specs.Prelude.{ℕ, List, codes}
use Rattle.scenario_cli.specs.PlaceText.{place_line}

abbrev pub wrong_line : ℕ → List ℕ → List ℕ
wrong_line place reason = place_line (codes "wrong") place reason
