use Rattle.std.proofs.Common.{List, ap₂, ◌∙◌, sym, subst}
use Rattle.board_model.specs.declared.scenario.LinkLine.{LinkLine}
use Rattle.std.specs.List.{AllByRecursion}
use Rattle.shared_words.specs.Shape.{IsRingSize}
use Rattle.board_model.proofs.LawfulBoards.{lawful_is_linked}
use Rattle.board_runner.specs.Wired.{AreRings, IsWired, wires_for}
use Rattle.board_runner.proofs.WiredLemmas.{ring-sizes, board-wired}
use Rattle.board_runner.proofs.serial.run_serial.Goals as goal

-- a lawful board's links have sizes that a ring may have
pub rings_of-requires : goal.rings_of-requires
rings_of-requires c = subst (λ (ls : List LinkLine). AllByRecursion (λ l. IsRingSize l.size) ls) (sym c.as_slice-links.ensures) (ring-sizes c.args.scenario.now c.requires)

-- the wires are those of the board's links, over its rings
pub run_board-requires-clause-wired : goal.run_board-requires-clause-wired
run_board-requires-clause-wired c =
    let s = c.args.scenario.now in
    let are = subst (λ (ls : List LinkLine). AreRings ls c.in_ok-rings.rings.items c.in_ok-rings.halves.items) c.as_slice-links.ensures c.in_ok-rings.ensures in
    subst (IsWired s) (sym (c.in_ok-wires.ensures ∙ ap₂ wires_for c.as_slice-links.ensures c.as_slice.ensures.value)) (board-wired s (lawful_is_linked s c.requires) c.in_ok-rings.rings.items c.in_ok-rings.halves.items are)
