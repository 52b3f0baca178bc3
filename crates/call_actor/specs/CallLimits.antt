-- How many calls there may be.
-- Source: docs/PROFILE.md, "Numbered calls on a board".
use Rattle.std.specs.Prelude.{ℕ}

abbrev pub call_limit : ℕ
call_limit = 100000
