-- The label that a packet is lent under, by what its line was answered.
-- Source: docs/PROFILE.md, "Packets and scalars" and "Waits". A wait for one of several requests tells the place of the one that ended.
use Rattle.std.specs.Prelude.{ℕ, zero, suc, List, map, Option, None, Some, slice_get}
use Rattle.board_model.specs.declared.scenario.Call.{Call}
use Rattle.board_model.specs.declared.scenario.Call.TheVariants.{Test, Wait, WaitAny}
use Rattle.board_model.specs.Journal.{PlainAnswer, completes}

-- the label at a place of a list, counted from 1
abbrev pub label_told : List (List ℕ) → Option ℕ → Option (List ℕ)
label_told labels None = None
label_told labels (Some zero) = None
label_told labels (Some (suc i)) = slice_get labels i

abbrev pub place_in : PlainAnswer → Option ℕ
place_in (completes place result) = place
place_in other = None

-- the label that a packet is lent under, by what the line was answered
abbrev pub lending_label_by : Call → PlainAnswer → Option (List ℕ) → Option (List ℕ)
lending_label_by (Test label) a own = Some label.items
lending_label_by (Wait label limit) a own = Some label.items
lending_label_by (WaitAny names limit) a own = label_told (map (λ l. l.items) names.items) (place_in a)
lending_label_by call a own = own
