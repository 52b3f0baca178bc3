use Rattle.std.proofs.Common.{get_or, refl}
use Rattle.outer_io.proofs.Writing.{puts_nothing, puts_item}
use Rattle.board_model.specs.declared.scenario.LinkLine.{LinkLine}
use Rattle.board_model.specs.Grammar.{link_text}
use Rattle.scenario_lang.proofs.canonical.put_links.Goals as goal

pub loop-link-init : goal.loop-link-init
loop-link-init g c = puts_nothing g.K.Sink c.args.out.now

pub loop-link-preserved : goal.loop-link-preserved
loop-link-preserved g c =
    let none : LinkLine = record { driver = 0; device = 0; size = 0 } in
    puts_item g.K.Sink _ _ _ link_text c.args.links.now c.loop-link.link-index (get_or c.args.links.now c.loop-link.link-index none) none c.loop-link-test.true refl c.loop-link.invariant c.put_link.ensures
