use Rattle.std.proofs.Common.{subst}
use Rattle.outer_io.specs.Puts.{Puts}
use Rattle.outer_io.proofs.Writing.{puts_then}
use Rattle.board_runner.specs.Mode.{mode_of}
use Rattle.board_runner.specs.Outcome.{lines_in}
use Rattle.board_runner.specs.RingLines.{ring_lines_in}
use Rattle.board_runner.proofs.ReportLemmas.{report-pieces}
use Rattle.board_runner.proofs.report.put_report.Goals as goal

pub returns : goal.returns
returns g c =
    let s = c.args.scenario.now in
    let o = c.args.outcome.now in
    let mode = mode_of c.args.threads in
    let heading = rw c.heading_of.ensures at c.put.ensures in
    let journals = rw c.as_slice.ensures at c.put_journals.ensures in
    let numbers = rw (c.as_slice-2.ensures, c.as_slice-3.ensures) at c.put_numbers.ensures in
    subst (Puts g.K.Sink c.args.out.now c.put-2.new.self) (report-pieces mode s (lines_in o.journals) o.channels o.messages o.places (ring_lines_in mode s.links o.rings))
    (puts_then _ _ _ _ _ _ heading (puts_then _ _ _ _ _ _ c.put_scenario.ensures (puts_then _ _ _ _ _ _ journals (puts_then _ _ _ _ _ _ numbers (puts_then _ _ _ _ _ _ c.put_images.ensures c.put-2.ensures)))))
