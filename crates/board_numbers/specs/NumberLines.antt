-- The lines of numbers in a report.
-- Source: docs/FORMATS.md, "Report".
use Rattle.std.specs.Prelude.{ℕ, List, ◌++◌}
use Rattle.std.specs.List.{flat_map}
use Rattle.board_model.specs.declared.totals.ChannelTotals.{ChannelTotals}
use Rattle.board_model.specs.declared.totals.LanePlaces.{LanePlaces}
use Rattle.board_model.specs.declared.totals.Totals.{Totals}
use Rattle.board_model.specs.Report.{summary_text, places_text}

-- the lines of these channels, that of the messages, and those of the lanes
abbrev pub numbers_text : List ChannelTotals → Totals → List LanePlaces → List ℕ
numbers_text channels messages places = summary_text channels messages ++ flat_map places_text places
