use Rattle.std.proofs.Common.{◌≤◌, ◌+◌, ◌*◌}
use Rattle.domain_parts.specs.Doing.{Takes}
use Rattle.domain_parts.proofs.holdings.Holdings.take_frames.Given as goal

abbrev pub invariant-loop : goal.invariant-loop
invariant-loop g l = record {
  takes : Takes g.P.PeerLane.Moved l.place l.counter l.fn.self l.self l.fn.journal.lines l.journal.lines;
  entry_room : l.fn.journal.entry_room ≤ l.journal.entry_room + l.counter;
  byte_room : l.fn.journal.byte_room ≤ l.journal.byte_room + 512 * l.counter;
}
