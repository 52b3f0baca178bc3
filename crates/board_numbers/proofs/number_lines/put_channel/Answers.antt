use Rattle.std.proofs.Common.{subst, sym}
use Rattle.std.specs.Prelude.{decimal}
use Rattle.outer_io.specs.Puts.{Puts}
use Rattle.outer_io.proofs.Writing.{puts_then}
use Rattle.board_model.specs.Grammar.{spaced}
use Rattle.board_model.specs.Report.{totals_words}
use Rattle.board_numbers.proofs.NumberLineLemmas.{channel-line}
use Rattle.board_numbers.proofs.number_lines.put_channel.Goals as goal

pub returns : goal.returns
returns g c =
    let t = c.args.channel.now in
    subst (λ text. Puts g.K.Sink c.args.out.now c.put_totals.new.out text) (sym (channel-line (decimal t.owner) (decimal t.number) (spaced (totals_words t.totals))))
    (puts_then _ _ _ _ _ _ c.put.ensures (puts_then _ _ _ _ _ _ c.put_number.ensures (puts_then _ _ _ _ _ _ c.put-2.ensures (puts_then _ _ _ _ _ _ c.put_number-2.ensures (puts_then _ _ _ _ _ _ c.put-3.ensures c.put_totals.ensures)))))
