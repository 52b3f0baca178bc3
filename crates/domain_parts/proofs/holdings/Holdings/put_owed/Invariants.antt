use Rattle.std.proofs.Common.{◌≡◌, ◌≤◌, ◌+◌, ◌*◌, ℕ, List, length}
use Rattle.std.specs.Prelude.{◌==◌, not, ◌||◌}
use Rattle.domain_parts.specs.Doing.{Puts}
use Rattle.domain_parts.specs.Owed.{room_for}
use Rattle.domain_parts.specs.Parts.{peer_at}
use Rattle.domain_parts.proofs.holdings.Holdings.put_owed.Given as goal

abbrev pub invariant-loop : goal.invariant-loop
invariant-loop g l = record {
  puts : (frames : List (List ℕ)) × Puts g.P.PeerLane.Moved l.place l.begun frames l.fn.self l.self l.fn.journal.lines l.journal.lines × (length frames ≡ l.counter);
  free : l.counter ≤ (peer_at l.fn.self.parts l.place).ends.free;
  begins : l.has_begun ≡ (l.begun || not (l.counter == 0));
  entry_room : l.fn.journal.entry_room + room_for l.has_begun ≤ l.journal.entry_room + l.counter + room_for l.begun;
  byte_room : l.fn.journal.byte_room ≤ l.journal.byte_room + 512 * l.counter;
}
