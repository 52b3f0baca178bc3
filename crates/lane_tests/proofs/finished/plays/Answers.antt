use Rattle.std.proofs.Common.{◌++◌}
use Rattle.lane_tests.proofs.finished.plays.Goals as goal

pub returns-clause-sends : goal.returns-clause-sends
returns-clause-sends g c =
    let both = g.met.S.SendEnd.both in let start = c.args.send.now in
    let one = c.puts_three.ensures in let two = c.looks_back.ensures in let three = c.puts_three-2.ensures in
    ((one.0 ++ two.0) ++ three.0, both start c.looks_back.new.end c.puts_three-2.new.end (one.0 ++ two.0) three.0 (both start c.puts_three.new.end c.looks_back.new.end one.0 two.0 one.1 two.1) three.1)

pub returns-clause-receives : goal.returns-clause-receives
returns-clause-receives g c =
    let both = g.met.R.RecvEnd.both in let start = c.args.recv.now in
    let one = c.takes.ensures in let two = c.takes-2.ensures in let three = c.keeps.ensures in
    ((one.0 ++ two.0) ++ three.0, both start c.takes-2.new.end c.keeps.new.end (one.0 ++ two.0) three.0 (both start c.takes.new.end c.takes-2.new.end one.0 two.0 one.1 two.1) three.1)
