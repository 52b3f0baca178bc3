use Rattle.std.proofs.Common.{arith}
use Rattle.board_runner.proofs.OthersLemmas.{none_so_far, one_further, own_further, all_others}
use Rattle.board_runner.proofs.stations.others_turn.Goals as goal
use Rattle.board_runner.proofs.stations.others_turn.Goals.{then-other-at+in_ok-turn_alone, else-other-at}

pub loop-other-init : goal.loop-other-init
loop-other-init c = none_so_far c.args.at c.args.stations.now c.requires.run c.requires.carried

pub loop-other-preserved : goal.loop-other-preserved
loop-other-preserved c =
    let i = c.loop-other.other in
    let mid = c.loop-other.stations in
    elim c.if-other-at.branch [
      | then-other-at+in_ok-turn_alone w ↦
          one_further i c.args.at c.args.stations.now mid w.turn_alone.new.stations c.if-other-at.stations (omega (arith, c.loop-other-test.true, c.loop-other.auto.stations)) w.if-other-at.true c.loop-other.invariant
          w.in_ok-turn_alone.ensures.run w.in_ok-turn_alone.ensures.carried w.in_ok-turn_alone.ensures.counts w.stations-is
      | else-other-at w ↦
          own_further i c.args.at c.args.stations.now mid c.if-other-at.stations w.if-other-at.false c.loop-other.invariant w.stations-is
    ]

pub returns-clause-run : goal.returns-clause-run
returns-clause-run c = all_others c.loop-other.other c.args.at c.args.stations.now c.loop-other.stations (omega (arith, c.loop-other-test.false, c.loop-other.auto.other-end)) c.loop-other.invariant.before
