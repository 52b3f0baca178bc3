use Rattle.std.proofs.Common.{take}
use Rattle.std.specs.List.{flat_map}
use Rattle.outer_io.specs.Puts.{Puts}
use Rattle.board_model.specs.Grammar.{domain_text}
use Rattle.scenario_lang.proofs.canonical.put_domains.Given as goal

abbrev pub invariant-loop-domain : goal.invariant-loop-domain
invariant-loop-domain g l = Puts g.K.Sink l.initial.out l.out (flat_map domain_text (take l.domain-index l.domains))
