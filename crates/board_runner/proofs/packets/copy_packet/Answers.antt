use Rattle.std.proofs.Common.{arith}
use Rattle.mc_base.specs.Limits.{item_size}
use Rattle.board_runner.proofs.PieceLemmas.{gathered-all, gathered-few, gathered-fits, gathered-next, gathered-none}
use Rattle.board_runner.proofs.packets.copy_packet.Goals as goal

pub loop-n-init : goal.loop-n-init
loop-n-init c = gathered-none c.args.out.now _

pub append-size-requires-clause-fits : goal.append-size-requires-clause-fits
append-size-requires-clause-fits c =
    let room = gathered-fits item_size c.loop-n.n c.loop-n.size c.loop-n.out c.in_ok-pkt_piece.field-0.now _ _ c.loop-n.invariant c.pkt_pieces.ensures.whole c.pkt_pieces.ensures.short c.in_ok-pkt_piece.ensures.bytes in
    omega (arith, room, c.requires, c.loop-n.auto.out)

pub loop-n-preserved : goal.loop-n-preserved
loop-n-preserved c = gathered-next c.loop-n.n c.loop-n.size c.append-size.result c.loop-n.out c.append-size.new.out c.in_ok-pkt_piece.field-0.now _ c.loop-n.invariant c.in_ok-pkt_piece.ensures.bytes c.append-size.ensures.size c.append-size.ensures.bytes

pub returns-clause-bytes : goal.returns-clause-bytes
returns-clause-bytes c = gathered-all c.in_ok-pieces.pieces c.loop-n.n c.loop-n.size c.loop-n.out _ _ c.loop-n.invariant c.in_ok-pieces.ensures.count (omega (arith, c.loop-n-test.false)) c.pkt_pieces.ensures.whole

pub returns-clause-within : goal.returns-clause-within
returns-clause-within c =
    let few = gathered-few item_size c.in_ok-pieces.pieces c.loop-n.n c.loop-n.size c.loop-n.out _ _ c.loop-n.invariant c.in_ok-pieces.ensures.count (omega (arith, c.loop-n-test.false)) c.pkt_pieces.ensures.whole c.pkt_pieces.ensures.short in
    omega (arith, few, c.requires, c.loop-n.auto.out)
