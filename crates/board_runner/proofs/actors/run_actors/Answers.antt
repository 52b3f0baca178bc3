use Rattle.std.proofs.Common.{List, sym, subst, ◌∙◌}
use Rattle.std.specs.List.{AllByRecursion}
use Rattle.shared_words.specs.Shape.{IsRingSize}
use Rattle.board_model.specs.declared.scenario.LinkLine.{LinkLine}
use Rattle.board_model.proofs.LawfulBoards.{lawful_is_linked}
use Rattle.board_runner.proofs.ActorBoards.{have-acted}
use Rattle.board_runner.proofs.OverRings.{ran-over, wired}
use Rattle.board_runner.proofs.WiredLemmas.{ring-sizes}
use Rattle.board_runner.proofs.actors.run_actors.Goals as goal

-- a lawful board's links have sizes that a ring may have
pub rings_of-requires : goal.rings_of-requires
rings_of-requires g c = subst (λ (ls : List LinkLine). AllByRecursion (λ l. IsRingSize l.size) ls) (sym c.as_slice-links.ensures) (ring-sizes c.args.board.now c.requires.lawful)

-- the wires are those of the board's links, over its rings
pub act_domains-requires-clause-wired : goal.act_domains-requires-clause-wired
act_domains-requires-clause-wired g c κs within =
    wired c.args.board.now _ c.as_slice-links.ensures c.in_ok-rings.rings.items c.in_ok-rings.halves.items c.in_ok-rings.ensures _ c.as_slice.ensures.value c.in_ok-wires.wires.items c.in_ok-wires.ensures (lawful_is_linked c.args.board.now c.requires.lawful)

pub outcome_left-requires-clause-ran : goal.outcome_left-requires-clause-ran
outcome_left-requires-clause-ran g c =
    let left = c.in_ok-left.ensures in
    ran-over c.in_ok-left.left.scenario _ (c.as_slice-links.ensures ∙ sym left.scripts.links) c.in_ok-rings.rings.items c.in_ok-rings.halves.items c.in_ok-rings.ensures _ c.as_slice.ensures.value c.in_ok-wires.wires.items c.in_ok-wires.ensures c.in_ok-left.left.remains left.apart

pub returns : goal.returns
returns g c =
    have-acted g.A.Actor c.args.board.now c.in_ok-wires.wires.items c.args.actors.items c.in_ok-left.left c.in_ok-left.ensures c.in_ok-outcome.outcome c.in_ok-outcome.ensures.run c.in_ok-outcome.ensures.journals
