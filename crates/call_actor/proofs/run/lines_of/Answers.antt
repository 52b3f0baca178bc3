use Rattle.std.proofs.Common.{ℕ, Vec, Global, ap, ◌∙◌}
use Rattle.call_actor.proofs.ClientCalls.{passed-own, taken-own}
use Rattle.call_actor.proofs.run.lines_of.Goals.{then-call-client+in_ok-append, else-call-client}
use Rattle.call_actor.proofs.run.lines_of.Goals as goal

pub loop-call-preserved : goal.loop-call-preserved
loop-call-preserved c = elim c.if-call-client.branch [
  | then-call-client+in_ok-append w ↦ taken-own c.args.client c.args.calls.now c.loop-call.call-index _ c.loop-call.lines.items c.if-call-client.lines.items c.loop-call-test.true w.if-call-client.true c.loop-call.invariant (ap (λ (v : Vec (ℕ × ℕ) Global). v.items) w.lines-is ∙ w.in_ok-append.ensures)
  | else-call-client w ↦ ap (λ (v : Vec (ℕ × ℕ) Global). v.items) w.lines-is ∙ passed-own c.args.client c.args.calls.now c.loop-call.call-index _ c.loop-call.lines.items c.loop-call-test.true w.if-call-client.false c.loop-call.invariant
]
