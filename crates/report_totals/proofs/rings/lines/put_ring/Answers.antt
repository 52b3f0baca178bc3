use Rattle.std.proofs.Common.{ℕ, List, subst, sym}
use Rattle.std.specs.Prelude.{decimal}
use Rattle.mc_base.specs.Text.{hex_digits}
use Rattle.outer_io.specs.Puts.{Puts}
use Rattle.outer_io.proofs.Writing.{puts_then}
use Rattle.report_totals.proofs.RingLines.{ring-line, digits-some}
use Rattle.report_totals.proofs.rings.lines.put_ring.Goals as goal

pub returns : goal.returns
returns g c =
    let l = c.args.link.now in
    let image : Puts g.K.Sink c.put-4.new.self c.put_hex.new.self (hex_digits c.args.image.now) = subst (λ (text : List ℕ). Puts g.K.Sink c.put-4.new.self c.put_hex.new.self text) (digits-some c.args.image.now c.requires) c.put_hex.ensures in
    subst (λ (text : List ℕ). Puts g.K.Sink c.args.out.now c.put-5.new.self text) (sym (ring-line (decimal l.driver) (decimal l.device) (decimal c.args.queue) (hex_digits c.args.image.now)))
    (puts_then _ _ _ _ _ _ c.put.ensures (puts_then _ _ _ _ _ _ c.put_number.ensures (puts_then _ _ _ _ _ _ c.put-2.ensures (puts_then _ _ _ _ _ _ c.put_number-2.ensures (puts_then _ _ _ _ _ _ c.put-3.ensures (puts_then _ _ _ _ _ _ c.put_number-3.ensures (puts_then _ _ _ _ _ _ c.put-4.ensures (puts_then _ _ _ _ _ _ image c.put-5.ensures))))))))
