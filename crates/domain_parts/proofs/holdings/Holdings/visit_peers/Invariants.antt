use Rattle.std.proofs.Common.{◌≤◌, ◌+◌, ◌*◌}
use Rattle.domain_parts.specs.Owed.{room_for}
use Rattle.domain_parts.proofs.VisitedAll.{SoFar}
use Rattle.domain_parts.proofs.holdings.Holdings.visit_peers.Given as goal

abbrev pub invariant-loop-place : goal.invariant-loop-place
invariant-loop-place g l = record {
  so_far : SoFar g.P.PeerLane.Moved l.fn.self l.self l.fn.journal.lines l.journal.lines l.place l.begun;
  entry_room : l.fn.journal.entry_room + room_for l.begun ≤ l.journal.entry_room + 18 * l.place + 2;
  byte_room : l.fn.journal.byte_room ≤ l.journal.byte_room + 8192 * l.place;
}
