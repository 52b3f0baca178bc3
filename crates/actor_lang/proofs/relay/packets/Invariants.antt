use Rattle.std.proofs.Common.{◌≡◌, ◌≤◌, ◌+◌, length, map}
use Rattle.actor_lang.specs.InputLines.{input_lines}
use Rattle.actor_lang.specs.InputFaults.{told_from}
use Rattle.actor_lang.specs.RelayInput.{packet_line}
use Rattle.actor_lang.proofs.Told.{told_after}
use Rattle.actor_lang.proofs.relay.packets.Given as goal

abbrev pub invariant-loop-rest : goal.invariant-loop-rest
invariant-loop-rest l = record {
  told : told_after (map (λ p. p.items) l.packets.items) (told_from (packet_line l.size) l.number (input_lines l.rest)) ≡ told_from (packet_line l.size) 2 (input_lines l.text);
  numbered : l.number + length l.rest ≤ length l.text + 2;
}

abbrev pub decreases-loop-rest : goal.decreases-loop-rest
decreases-loop-rest l = length l.rest
