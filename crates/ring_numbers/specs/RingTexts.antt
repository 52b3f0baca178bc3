-- The line of a report that shows the image of a ring.
-- Source: docs/FORMATS.md, "Report".
use Rattle.std.specs.Prelude.{ℕ, List, [], ◌∷◌, codes, decimal}
use Rattle.mc_base.specs.Text.{hex_digits}
use Rattle.board_model.specs.declared.scenario.LinkLine.{LinkLine}
use Rattle.board_model.specs.Grammar.{line_of}

-- the line of an image, under its link and its queue
abbrev pub ring_text : LinkLine → ℕ → List ℕ → List ℕ
ring_text l queue image = line_of (codes "ring" ∷ decimal l.driver ∷ decimal l.device ∷ decimal queue ∷ hex_digits image ∷ [])
