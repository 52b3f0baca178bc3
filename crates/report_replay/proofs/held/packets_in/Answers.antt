use Rattle.std.proofs.Common.{ap, arith}
use Rattle.std.proofs.lemmas.List.{drop_all}
use Rattle.std.specs.Prelude.{sum_by}
use Rattle.report_replay.proofs.Counted.{packet_weight, packets-weighed}
use Rattle.report_replay.proofs.held.packets_in.Goals as goal

pub returns : goal.returns
returns c =
    let none = ap (sum_by (packet_weight c.args.peer)) (drop_all c.loop-packet.packet-index c.args.packets.now c.loop-packet-test.false) in
    omega (arith, none, packets-weighed c.args.peer c.args.packets.now, c.loop-packet.invariant.all, c.loop-packet.invariant.small)
