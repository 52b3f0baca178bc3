use Rattle.std.proofs.Common.{◌++◌}
use Rattle.lane_tests.proofs.deeds.puts_three.Goals as goal

pub returns : goal.returns
returns g c =
    let both = g.met.S.SendEnd.both in
    let one = c.puts.ensures in
    let two = c.puts-2.ensures in
    let three = c.puts-3.ensures in
    ((one.0 ++ two.0) ++ three.0, both c.args.end.now c.puts-2.new.end c.puts-3.new.end (one.0 ++ two.0) three.0 (both c.args.end.now c.puts.new.end c.puts-2.new.end one.0 two.0 one.1 two.1) three.1)
