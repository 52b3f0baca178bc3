use Rattle.std.proofs.Common.{◌≡◌, ◌+◌, ◌*◌, ◌<◌, length, get_or, arith, refl, subst}
use Rattle.outer_io.proofs.Writing.{puts_nothing, puts_then}
use Rattle.outer_io.specs.Puts.{Puts}
use Rattle.board_model.specs.declared.scenario.LinkLine.{LinkLine}
use Rattle.board_runner.proofs.RingLemmas.{rings-all, rings-each, rings-more}
use Rattle.board_runner.proofs.report.put_rings.Goals as goal

pub loop-at-init : goal.loop-at-init
loop-at-init g c = puts_nothing g.K.Sink c.args.out.now

pub bounds-links-at : goal.bounds-links-at
bounds-links-at g c = omega (arith, c.loop-at-test.true, rings-each c.args.links.now c.args.rings.now c.requires)

pub bounds-links-at-in-loop-at : goal.bounds-links-at-in-loop-at
bounds-links-at-in-loop-at g c = omega (arith, c.loop-at-test.true, rings-each c.args.links.now c.args.rings.now c.requires)

pub loop-at-preserved : goal.loop-at-preserved
loop-at-preserved g c =
    let ls = c.args.links.now in
    let rings = c.args.rings.now in
    let at = c.loop-at.at in
    let none : LinkLine = record { driver = 0; device = 0; size = 0 } in
    let within : at < length ls = omega (arith, c.loop-at-test.true, rings-each ls rings c.requires) in
    let more = rings-more ls rings at (2 * at) (2 * at + 1) (get_or ls at none) none c.index-rings-at.result c.index-rings-at-in-loop-at.result c.requires within refl refl c.index-rings-at.is refl c.index-rings-at-in-loop-at.is in
    rw more (puts_then g.K.Sink _ _ _ _ _ c.loop-at.invariant (puts_then g.K.Sink _ _ _ _ _ c.put_ring.ensures c.put_ring-in-loop-at.ensures))

pub returns : goal.returns
returns g c =
    let ls = c.args.links.now in
    let rings = c.args.rings.now in
    let all : c.loop-at.at ≡ length ls = omega (arith, c.loop-at-test.false, c.loop-at.auto.at-end, rings-each ls rings c.requires) in
    subst (λ text. Puts g.K.Sink c.args.out.now c.loop-at.out text) (rings-all ls rings c.loop-at.at all) c.loop-at.invariant
