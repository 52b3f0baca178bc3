use Rattle.call_service.proofs.Repeats.{first_reply}
use Rattle.call_service.proofs.laws.repeats_get_the_first_reply.Goals as goal

pub returns : goal.returns
returns c before between r again next client number unknown = first_reply before between r again next client number unknown
