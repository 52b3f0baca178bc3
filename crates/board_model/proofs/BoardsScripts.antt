-- The scripts of a board of linked domains: fewer than 2^32 lines, of the domain's own, with arguments in their ranges.
use Rattle.std.proofs.Common.{◌≡◌, ℕ, ◌<◌, ◌≤◌, ◌^◌, true, length, arith, eqb-true}
use Rattle.std.specs.Prelude.{◌==◌}
use Rattle.std.specs.List.{AllByRecursion}
use Rattle.std.proofs.lemmas.List.Elements.{filter_passes, recursion_from_All}
use Rattle.std.proofs.lemmas.List.Sums.{length-filter, count_by-le-length}
use Rattle.board_model.specs.declared.scenario.CallLine.{CallLine}
use Rattle.board_model.specs.declared.scenario.Scenario.{Scenario}
use Rattle.board_model.specs.Scenario.{script}
use Rattle.board_model.specs.LinkedBoard.{HasFitArguments, IsLinkedBoard}
use Rattle.board_model.proofs.MessageAlls.{all-filter, all-weaken}

pub script-few : (s : Scenario) → IsLinkedBoard s → (d : ℕ) → length (script s d) < 2 ^ 32
script-few s board d = omega (arith, length-filter (λ (c : CallLine). c.domain == d) s.calls, count_by-le-length (λ (c : CallLine). c.domain == d) s.calls, board.lines_few)

pub script-own : (s : Scenario) (d : ℕ) → AllByRecursion (λ c. c.domain ≡ d) (script s d)
script-own s d = all-weaken (λ (c : CallLine). (c.domain == d) ≡ true) (λ c. c.domain ≡ d) (λ c own. eqb-true c.domain d own) (script s d) (recursion_from_All (λ (c : CallLine). (c.domain == d) ≡ true) (script s d) (filter_passes (λ (c : CallLine). c.domain == d) s.calls))

pub script-nodes : (s : Scenario) → IsLinkedBoard s → (d : ℕ) → AllByRecursion (λ c. c.node ≤ 15) (script s d)
script-nodes s board d = all-filter (λ (c : CallLine). c.node ≤ 15) (λ c. c.domain == d) s.calls board.nodes_fit

pub script-fits : (s : Scenario) → IsLinkedBoard s → (d : ℕ) → AllByRecursion (λ c. HasFitArguments c.call) (script s d)
script-fits s board d = all-filter (λ (c : CallLine). HasFitArguments c.call) (λ c. c.domain == d) s.calls board.arguments_fit
