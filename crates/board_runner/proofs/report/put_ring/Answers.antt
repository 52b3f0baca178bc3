use Rattle.std.proofs.Common.{subst, sym}
use Rattle.std.specs.Prelude.{decimal}
use Rattle.mc_base.specs.Text.{hex_digits}
use Rattle.outer_io.specs.Puts.{Puts}
use Rattle.outer_io.proofs.Writing.{puts_then}
use Rattle.board_runner.specs.RingLines.{image_of_ring}
use Rattle.board_runner.proofs.RingLemmas.{ring-line}
use Rattle.board_runner.proofs.report.put_ring.Goals as goal

pub returns : goal.returns
returns g c =
    let l = c.args.link.now in
    subst (λ text. Puts g.K.Sink c.args.out.now c.put-5.new.self text) (sym (ring-line (decimal l.driver) (decimal l.device) (decimal c.args.queue) (hex_digits (image_of_ring c.args.ring.now))))
    (puts_then _ _ _ _ _ _ c.put.ensures (puts_then _ _ _ _ _ _ c.put_number.ensures (puts_then _ _ _ _ _ _ c.put-2.ensures (puts_then _ _ _ _ _ _ c.put_number-2.ensures (puts_then _ _ _ _ _ _ c.put-3.ensures (puts_then _ _ _ _ _ _ c.put_number-3.ensures (puts_then _ _ _ _ _ _ c.put-4.ensures (puts_then _ _ _ _ _ _ c.put_image.ensures c.put-5.ensures))))))))
