use Rattle.std.proofs.Common.{get_or, refl}
use Rattle.outer_io.proofs.Writing.{puts_nothing, puts_item}
use Rattle.board_model.specs.declared.scenario.DomainLine.{DomainLine}
use Rattle.board_model.specs.Grammar.{domain_text}
use Rattle.scenario_lang.proofs.canonical.put_domains.Goals as goal

pub loop-domain-init : goal.loop-domain-init
loop-domain-init g c = puts_nothing g.K.Sink c.args.out.now

pub loop-domain-preserved : goal.loop-domain-preserved
loop-domain-preserved g c =
    let none : DomainLine = record { domain = 0; nodes = 0; pool = 0 } in
    puts_item g.K.Sink _ _ _ domain_text c.args.domains.now c.loop-domain.domain-index (get_or c.args.domains.now c.loop-domain.domain-index none) none c.loop-domain-test.true refl c.loop-domain.invariant c.put_domain.ensures
