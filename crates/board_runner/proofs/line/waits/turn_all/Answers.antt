use Rattle.std.proofs.Common.{arith}
use Rattle.board_runner.proofs.WaitRounds.{no-round, round-further, whole-round}
use Rattle.board_runner.proofs.line.waits.turn_all.Goals as goal

pub loop-at-init : goal.loop-at-init
loop-at-init c = no-round c.args.stations.now c.requires.run c.requires.carried

pub loop-at-preserved : goal.loop-at-preserved
loop-at-preserved c =
    let i = c.loop-at.at in
    let mid = c.loop-at.stations in
    round-further i c.args.stations.now mid c.turn_alone.new.stations (omega (arith, c.loop-at-test.true, c.loop-at.auto.stations)) c.loop-at.invariant c.in_ok-turn_alone.ensures.run c.in_ok-turn_alone.ensures.carried c.in_ok-turn_alone.ensures.counts

pub returns-clause-run : goal.returns-clause-run
returns-clause-run c = whole-round c.loop-at.at c.args.stations.now c.loop-at.stations (omega (arith, c.loop-at-test.false, c.loop-at.auto.at-end)) c.loop-at.invariant.before
