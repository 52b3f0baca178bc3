use Rattle.std.proofs.Common.{◌≡◌}
use Rattle.hop_relay.specs.RelayActors.{line_asked}
use Rattle.hop_relay_tests.proofs.lines.lines_of.Given as goal

-- the actor was not told the answer to the next line yet
abbrev pub invariant-loop : goal.invariant-loop
invariant-loop l = line_asked l.actor ≡ l.next
