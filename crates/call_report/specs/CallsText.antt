-- The lines of numbered calls, which stand behind the report of a run of their board.
-- Source: docs/FORMATS.md, "Lines of numbered calls".
use Rattle.std.specs.Prelude.{ℕ, Bool, ◌==◌, List, [], ◌∷◌, ◌++◌, codes, decimal, if◌then◌else◌}
use Rattle.std.specs.List.{flat_map, list_any}
use Rattle.board_model.specs.Grammar.{line_of}
use Rattle.board_model.specs.Report.{ending}
use Rattle.call_service.specs.declared.carried.Carried.{Carried}
use Rattle.call_service.specs.declared.reply.Status.TheVariants.{Over}
use Rattle.call_service.specs.Bytes.{status_byte}
use Rattle.call_service.specs.Served.{value, rising}
use Rattle.call_logs.specs.declared.got.Got.{Got}

-- ---- the calls that were carried out

-- whether the sum of a call was over the greatest u64, as a word
abbrev pub outcome_text : Bool → List ℕ
outcome_text over = if over then codes "over" else codes "done"

abbrev pub carried_line : Carried → List ℕ
carried_line e = line_of (codes "carried" ∷ decimal e.client ∷ decimal e.number ∷ decimal e.cell ∷ decimal e.amount ∷ outcome_text e.over ∷ decimal e.value ∷ [])

-- the line of how many clients there are, by which the lines begin
abbrev pub heading : ℕ → List ℕ
heading clients = line_of (codes "calls" ∷ decimal clients ∷ [])

abbrev pub carried_text : ℕ → List Carried → List ℕ
carried_text clients history = heading clients ++ flat_map carried_line history

-- ---- what the clients got

abbrev pub got_line : ℕ → Got → List ℕ
got_line client g = line_of (codes "got" ∷ decimal client ∷ decimal g.number ∷ outcome_text (g.status == status_byte Over) ∷ decimal g.value ∷ [])

-- by what each client got, in rising number
abbrev pub gots_text : ℕ → (ℕ → List Got) → List ℕ
gots_text clients gots = flat_map (λ client. flat_map (got_line client) (gots client)) (rising 1 clients)

-- ---- the cells

-- a call that was carried out names the cell, whether it was over or not
abbrev pub is_named : List Carried → ℕ → Bool
is_named history cell = list_any (λ e. e.cell == cell) history

-- the line of a cell, where a call names it
abbrev pub cell_line : List Carried → ℕ → List ℕ
cell_line history cell = if is_named history cell then line_of (codes "cell" ∷ decimal cell ∷ decimal (value history cell) ∷ []) else []

-- the lines of all 16 cells, and the last line
abbrev pub cells_text : List Carried → List ℕ
cells_text history = flat_map (cell_line history) (rising 0 16) ++ ending

-- ---- all lines, by the calls that were carried out and by what each client got

abbrev pub calls_text : ℕ → List Carried → (ℕ → List Got) → List ℕ
calls_text clients history gots = carried_text clients history ++ (gots_text clients gots ++ cells_text history)
