use Rattle.std.proofs.Common.{◌≤◌, ◌+◌, ◌*◌}
use Rattle.domain_parts.proofs.PutParts.{PartsPut}
use Rattle.domain_parts.proofs.holdings.Holdings.put_parts.Given as goal

abbrev pub invariant-loop : goal.invariant-loop
invariant-loop g l = record {
  parts : PartsPut g.P.PeerLane.Moved l.item l.cut l.count l.fn.self l.self l.fn.journal.lines l.journal.lines l.counter l.offset l.rest;
  entry_room : l.fn.journal.entry_room ≤ l.journal.entry_room + l.counter;
  byte_room : l.fn.journal.byte_room ≤ l.journal.byte_room + 512 * l.counter;
}
