use Rattle.std.proofs.Common.{length}
use Rattle.report_text.proofs.link_pass.wrong_link.Goals as goal

pub link_place-requires-clause-ready : goal.link_place-requires-clause-ready
link_place-requires-clause-ready c = c.lefts_of-lefts.ensures.ready (length c.args.peers_room.now) c.requires.room
