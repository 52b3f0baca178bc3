-- A board whose wires are those of its links, over new rings, and what its domains leave.
use Rattle.std.proofs.Common.{◌≡◌, List, sym, ap₂, ◌∙◌, subst}
use Rattle.board_model.specs.declared.scenario.LinkLine.{LinkLine}
use Rattle.board_model.specs.declared.scenario.Scenario.{Scenario}
use Rattle.board_model.specs.LinkedBoard.{IsLinkedBoard}
use Rattle.board_runner.specs.declared.ended.Remains.{Remains}
use Rattle.board_runner.specs.declared.rings.LinkHalves.{LinkHalves}
use Rattle.board_runner.specs.declared.rings.LinkRings.{LinkRings}
use Rattle.board_runner.specs.declared.wires.Wire.{Wire}
use Rattle.board_runner.specs.Apart.{RanApart, RanOver}
use Rattle.board_runner.specs.Wired.{AreRings, IsWired, wires_for}
use Rattle.board_runner.proofs.WiredLemmas.{board-wired}

module _ (s : Scenario) (ls : List LinkLine) (listed : ls ≡ s.links) (rings : List LinkRings) (hs : List LinkHalves) (new : AreRings ls rings hs) (on : List LinkRings) (borrowed : on ≡ rings) (ws : List Wire) (wires : ws ≡ wires_for ls on) where
  are : AreRings s.links rings hs
  are = subst (λ (ks : List LinkLine). AreRings ks rings hs) listed new

  same : ws ≡ wires_for s.links rings
  same = wires ∙ ap₂ wires_for listed borrowed

  pub wired : IsLinkedBoard s → IsWired s ws
  wired board = subst (IsWired s) (sym same) (board-wired s board rings hs are)

  pub ran-over : (left : Remains) → RanApart s ws left → RanOver s rings left
  ran-over left ran = record { halves = hs; new = are; apart = subst (λ (us : List Wire). RanApart s us left) same ran }
