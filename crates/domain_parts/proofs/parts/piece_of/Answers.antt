use Rattle.std.proofs.Common.{ap, arith, length, subst}
use Rattle.mc_base.specs.Letter.{of_message, of_packet, piece, piece_in}
use Rattle.name_service.specs.Said.{reading_of}
use Rattle.domain_parts.specs.Growing.{IsRead}
use Rattle.domain_parts.proofs.Pieces.{read-fits}
use Rattle.domain_parts.proofs.parts.piece_of.Goals.{in-MsgPart, in-PacketPart}
use Rattle.domain_parts.proofs.parts.piece_of.Goals as goal

pub overflow_cast-result : goal.overflow_cast-result
overflow_cast-result c =
    let s = c.in-Sends in
    let read = subst (λ x. IsRead (reading_of x)) s.is c.requires.read in
    elim c.match-letter.branch [
      | in-MsgPart w ↦
          let m = w.in-MsgPart in
          let is = ap (λ x. length x.3.now) w.carrier-is in
          let most = read-fits s.letter s.src s.dst (piece (of_message m.priority) m.total m.offset m.bytes.now) (ap piece_in m.is) read in
          omega (arith, is, most)
      | in-PacketPart w ↦
          let m = w.in-PacketPart in
          let is = ap (λ x. length x.3.now) w.carrier-is in
          let most = read-fits s.letter s.src s.dst (piece (of_packet m.channel) m.total m.offset m.bytes.now) (ap piece_in m.is) read in
          omega (arith, is, most)
    ]
