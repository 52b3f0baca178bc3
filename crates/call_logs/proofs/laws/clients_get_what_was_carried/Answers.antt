-- Each reply that a client received was sent, and only the server sends to it: it is what the server replied to a request of that client.
use Rattle.call_logs.proofs.CallsGot.{got_in_order}
use Rattle.call_logs.proofs.laws.clients_get_what_was_carried.Goals as goal

pub returns : goal.returns
returns c = got_in_order
