use Rattle.std.proofs.Common.{arith}
use Rattle.report_view.proofs.RoomLemmas.{fit_in_front}
use Rattle.report_view.proofs.room.+longest_of.Goals as goal

pub returns-in-len1-up : goal.returns-in-len1-up
returns-in-len1-up t c =
    fit_in_front c.args.domains.now c.first-item.result c.longest_line.result c.longest_of.result c.max.result (omega (arith, c.in-len1-up.len_at_least)) c.first-item.is c.longest_line.ensures c.longest_of.ensures (omega (arith, c.max.ensures)) (omega (arith, c.max.ensures))
