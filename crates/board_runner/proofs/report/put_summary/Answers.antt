use Rattle.board_runner.proofs.report.put_summary.Goals as goal

pub returns : goal.returns
returns g c = rw c.as_slice.ensures at c.put_summary.ensures
