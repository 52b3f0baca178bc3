use denote.Param.Send.{sendable}
use Rattle.call_actor.proofs.SendLemmas.{client_send, server_send}
use Rattle.call_actor.proofs.call_actor.call_actors_may_move.Goals as goal

pub moves-requires-send-T : goal.moves-requires-send-T
moves-requires-send-T c κs = search (sendable, client_send, server_send) depth 12
