-- The labels under which the server looks up its clients.
-- Source: docs/PROFILE.md, "Numbered calls on a board".
use Rattle.std.specs.Prelude.{ℕ, List, ◌++◌, codes, decimal}

abbrev pub label_for : ℕ → List ℕ
label_for d = codes "a" ++ decimal d
