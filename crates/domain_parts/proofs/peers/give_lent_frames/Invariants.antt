use Rattle.std.proofs.Common.{Some}
use Rattle.domain_parts.specs.GivingBack.{Giving}
use Rattle.buffer_book.specs.Book.{slot_of}
use Rattle.domain_parts.proofs.peers.give_lent_frames.Given as goal

abbrev pub invariant-loop : goal.invariant-loop
invariant-loop g l = Giving g.P.PeerLane.Moved g.P.PeerLane.seen (slot_of l.id) (Some l.id.serial) l.counter l.fn.book l.book l.fn.ends l.ends
