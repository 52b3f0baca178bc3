use denote.Param.Send.{sendable}
use Rattle.hop_relay.proofs.SendLemmas.{first_send, middle_send, last_send}
use Rattle.hop_relay.proofs.relay_actor.relay_actors_may_move.Goals as goal

pub moves-requires-send-T : goal.moves-requires-send-T
moves-requires-send-T c κs = search (sendable, first_send, middle_send, last_send) depth 12
