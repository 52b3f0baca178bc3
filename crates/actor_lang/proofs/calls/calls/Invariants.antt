use Rattle.std.proofs.Common.{◌≡◌, ◌≤◌, ◌+◌, length}
use Rattle.actor_lang.specs.InputLines.{input_lines}
use Rattle.actor_lang.specs.InputFaults.{told_from}
use Rattle.actor_lang.specs.CallsInput.{call_line}
use Rattle.actor_lang.proofs.Told.{told_after}
use Rattle.actor_lang.proofs.calls.calls.Given as goal

abbrev pub invariant-loop-rest : goal.invariant-loop-rest
invariant-loop-rest l = record {
  told : told_after l.calls.items (told_from (call_line l.clients) l.number (input_lines l.rest)) ≡ told_from (call_line l.clients) 2 (input_lines l.text);
  numbered : l.number + length l.rest ≤ length l.text + 2;
}

abbrev pub decreases-loop-rest : goal.decreases-loop-rest
decreases-loop-rest l = length l.rest
