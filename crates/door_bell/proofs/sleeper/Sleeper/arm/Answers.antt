use Rattle.std.proofs.Common.{◌∙◌, ap, arith}
use Rattle.door_bell.specs.Shown.{BellShown, SleeperShown}
use Rattle.door_bell.proofs.ShownLemmas.{stage_before, arming_first}
use Rattle.door_bell.proofs.sleeper.Sleeper.arm.Goals as goal

pub loop-next-init : goal.loop-next-init
loop-next-init c = c.store_wants.ensures.view ∙ arming_first c.args.self.now (let a = c.store_wants.ensures.ringers in let b = c.store_wants.ensures.some in omega (arith, a, b))

pub hears_nothing-requires-clause-arming : goal.hears_nothing-requires-clause-arming
hears_nothing-requires-clause-arming c = ap (λ (x : SleeperShown). x.view.stage) c.loop-next.invariant
    ∙ stage_before c.args.self.now.view.ringers c.loop-next.next (let a = c.store_wants.ensures.ringers in let b = c.loop-next-test.true in let d = c.loop-next.auto.next-end in let e = ap (λ (x : BellShown). x.ringers) c.on.view_is in omega (arith, a, b, d, e))
