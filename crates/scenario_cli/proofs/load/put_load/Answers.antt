use Rattle.std.proofs.Common.{◌++◌, List, ℕ, subst}
use Rattle.std.specs.Prelude.{codes, decimal}
use Rattle.outer_io.specs.Puts.{Puts}
use Rattle.outer_io.proofs.Writing.{puts_then}
use Rattle.board_model.specs.LoadBoard.{load_board}
use Rattle.board_model.specs.SerialRun.{serial_run}
use Rattle.board_model.specs.Report.{ending}
use Rattle.scenario_cli.specs.LoadText.{summary_of, load_report}
use Rattle.scenario_cli.proofs.LoadWords.{load-pieces}
use Rattle.scenario_cli.proofs.load.put_load.Goals as goal

pub returns : goal.returns
unfolding load_report
returns g c =
    let n = c.args.packets in
    let summary : List ℕ = summary_of (load_board n) (serial_run (load_board n)) in
    let told = rw (c.requires.channels, c.requires.messages) at c.put_summary.ensures in
    subst (λ (t : List ℕ). Puts g.K.Sink c.args.out.now c.put-3.new.self t) (load-pieces n summary)
    (puts_then _ _ _ _ (codes "load ") (decimal n ++ (codes "\n" ++ (summary ++ ending))) c.put.ensures
    (puts_then _ _ _ _ (decimal n) (codes "\n" ++ (summary ++ ending)) c.put_number.ensures
    (puts_then _ _ _ _ (codes "\n") (summary ++ ending) c.put-2.ensures (puts_then _ _ _ _ summary ending told c.put-3.ensures))))
