use Rattle.std.proofs.Common.{◌≤◌, vec_len, vec_capacity}
use Rattle.board_runner.proofs.WiredLemmas.{TakenSo}
use Rattle.board_runner.proofs.links.links_of.Given as goal

abbrev pub invariant-loop-peer : goal.invariant-loop-peer
invariant-loop-peer l = record {
  so : TakenSo l.fn.wires.items l.wires.items l.domain l.peer l.links.items;
  few : vec_len l.links ≤ l.peer;
  room : 8 ≤ vec_capacity l.links;
}
