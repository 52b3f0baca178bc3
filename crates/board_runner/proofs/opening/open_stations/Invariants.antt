use Rattle.std.proofs.Common.{◌≡◌, ◌≤◌, ℕ, vec_len, vec_capacity}
use Rattle.board_model.specs.Scenario.{rising}
use Rattle.board_model.proofs.BoardsFound.{below}
use Rattle.board_runner.specs.Wired.{wire_at}
use Rattle.board_runner.specs.Opened.{AreOpened}
use Rattle.board_runner.proofs.opening.open_stations.Given as goal

abbrev pub invariant-loop-number : goal.invariant-loop-number
invariant-loop-number l = record {
  so_far : AreOpened l.scenario l.initial.wires.items (below (λ d. d.domain) l.number (rising l.scenario)) l.stations.items;
  rest : (a b : ℕ) → l.number ≤ a → wire_at l.wires.items a b ≡ wire_at l.initial.wires.items a b;
  few : vec_len l.stations ≤ l.number;
  room : 8 ≤ vec_capacity l.stations;
}
