-- How a board was run, by the heading of its report.
-- Source: docs/FORMATS.md, "Report".
use Rattle.board_model.specs.Report.{serial, threads}
use Rattle.board_model.specs.Report.{Mode as RunMode}
use Rattle.report_text.specs.declared.mode.Mode.{Mode}
use Rattle.report_text.specs.declared.mode.Mode.TheVariants.{Serial, Threads}

abbrev pub mode_of : Mode → RunMode
mode_of Serial = serial
mode_of Threads = threads
