use Rattle.std.proofs.Common.{take}
use Rattle.std.specs.List.{flat_map}
use Rattle.outer_io.specs.Puts.{Puts}
use Rattle.board_model.specs.Grammar.{link_text}
use Rattle.scenario_lang.proofs.canonical.put_links.Given as goal

abbrev pub invariant-loop-link : goal.invariant-loop-link
invariant-loop-link g l = Puts g.K.Sink l.initial.out l.out (flat_map link_text (take l.link-index l.links))
