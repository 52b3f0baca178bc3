-- The line of a cell, by whether a call names it.
use Rattle.std.proofs.Common.{◌≡◌, ℕ, true, false, List, [], ◌∷◌, refl}
use Rattle.std.specs.Prelude.{codes, decimal}
use Rattle.board_model.specs.Grammar.{line_of}
use Rattle.call_service.specs.declared.carried.Carried.{Carried}
use Rattle.call_service.specs.Served.{value}
use Rattle.call_report.specs.CallsText.{is_named, cell_line}

pub line_unnamed : (h : List Carried) (cell : ℕ) → is_named h cell ≡ false → cell_line h cell ≡ []
line_unnamed h cell is = rw is refl

pub line_named : (h : List Carried) (cell : ℕ) → is_named h cell ≡ true → cell_line h cell ≡ line_of (codes "cell" ∷ decimal cell ∷ decimal (value h cell) ∷ [])
line_named h cell is = rw is refl
