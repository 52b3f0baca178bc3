-- What became of the items of the channels of a board, by its domains at their ends, whatever run of the board it was.
-- Source: docs/FORMATS.md, "Report".
use Rattle.std.specs.Prelude.{◌≡◌, ℕ, ◌++◌, List, map, slice_get, Some}
use Rattle.board_model.specs.declared.totals.ChannelTotals.{ChannelTotals}
use Rattle.board_model.specs.declared.totals.Totals.{Totals}
use Rattle.board_model.specs.declared.scenario.Scenario.{Scenario}
use Rattle.board_model.specs.SerialRun.{Station, journal_left}
use Rattle.board_model.specs.Totals.{channel_totals, item_totals, totals_of_owner}
use Rattle.board_numbers.specs.EndedDomains.{Ended, EndAs}
use Rattle.board_numbers.specs.Tallied.{RanBoard}

-- these are what became of the items of all channels
abbrev pub TellChannels : Scenario → List Ended → List ChannelTotals → Type 0
TellChannels s es cs = (ts : List Station) → RanBoard s ts → EndAs ts es → cs ≡ channel_totals s (map journal_left ts)

-- those of one channel
abbrev pub TellTotalsOf : Scenario → List Ended → ℕ → ℕ → Totals → Type 0
TellTotalsOf s es owner number x = (ts : List Station) → RanBoard s ts → EndAs ts es → x ≡ item_totals s (map journal_left ts) owner number

-- and those of all channels of the domain at a place, added to others
abbrev pub AddChannels : Scenario → List Ended → ℕ → List ChannelTotals → List ChannelTotals → Type 0
AddChannels s es at old new = (ts : List Station) (t : Station) → RanBoard s ts → EndAs ts es → slice_get ts at ≡ Some t → new ≡ old ++ totals_of_owner s (map journal_left ts) (journal_left t)
