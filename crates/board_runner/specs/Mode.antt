-- The mode of a report, by whether the domains ran on threads.
-- Source: docs/FORMATS.md, "Report".
use Rattle.std.specs.Prelude.{Bool, true, false}
use Rattle.board_model.specs.Report.{Mode, serial, threads}

abbrev pub mode_of : Bool → Mode
mode_of true = threads
mode_of false = serial
