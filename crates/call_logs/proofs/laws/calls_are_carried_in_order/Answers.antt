-- Each request that the server received was sent, and only the client with its number sends it: it is that client's call of that number.
use Rattle.call_logs.proofs.CallsCarried.{carried_in_order}
use Rattle.call_logs.proofs.laws.calls_are_carried_in_order.Goals as goal

pub returns : goal.returns
returns c = carried_in_order
