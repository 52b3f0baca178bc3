use Rattle.std.proofs.Common.{List, ℕ, sym, subst}
use Rattle.outer_io.proofs.Writing.{puts_then}
use Rattle.outer_io.specs.Puts.{Puts}
use Rattle.view_expect.proofs.OutcomeTexts.{differs}
use Rattle.view_expect.proofs.tap.put_outcome.Goals as goal

pub returns-then-not-outcome : goal.returns-then-not-outcome
returns-then-not-outcome g c =
    subst (λ (t : List ℕ). Puts g.K.Sink c.args.out.now c.put_difference.new.out t) (sym (differs c.args.outcome.now c.if-not-outcome.true))
    (puts_then _ _ _ _ _ _ c.put_line.ensures c.put_difference.ensures)
