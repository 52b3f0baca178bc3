-- The table of calls as the code has it.
-- Source: docs/FORMATS.md, "Scenario files", the table of calls; `board_model` has the table.
use Rattle.std.specs.Prelude.{◌≡◌}
use Rattle.board_model.specs.Forms.{CallForm}
use Rattle.scenario_lang.specs.declared.table.CallRow.{CallRow}

-- a row of the code is that of the table
pub record IsRow (r : CallRow) (row : CallForm) : Type 0 where
  pub word : r.word.now ≡ row.word
  pub arguments : r.arguments.now ≡ row.arguments
  pub labelled : r.labelled ≡ row.labelled
  pub tried : r.tried ≡ row.tried
