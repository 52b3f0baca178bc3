-- What a text that was read says, as plain lists.
-- Source: docs/FORMATS.md, "Text of a relay" and "Text of numbered calls".
use Rattle.std.specs.Prelude.{map}
use Rattle.actor_lang.specs.declared.relay.RelayText.{RelayText}
use Rattle.actor_lang.specs.declared.calls.CallsText.{CallsText}
use Rattle.actor_lang.specs.RelayInput.{Relay}
use Rattle.actor_lang.specs.CallsInput.{NumberedCalls}

abbrev pub relay_of : RelayText → Relay
relay_of t = record { hops = t.hops; size = t.size; packets = map (λ p. p.items) t.packets.items }

abbrev pub calls_of : CallsText → NumberedCalls
calls_of t = record { clients = t.clients; size = t.size; repeat = t.repeat; calls = t.calls.items }
