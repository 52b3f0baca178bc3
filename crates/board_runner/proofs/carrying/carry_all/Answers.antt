use Rattle.std.proofs.Common.{◌≡◌, ◌+◌, ℕ, List, length, sym, subst, arith}
use Rattle.board_runner.specs.declared.station.Station.{Station}
use Rattle.board_runner.proofs.AllCarried.{CarriedUpTo, all-carried-at, all-true-at, carried-more, carried-skip}
use Rattle.board_runner.proofs.carrying.carry_all.Goals as goal
use Rattle.board_runner.proofs.carrying.carry_all.Goals.{then-other-at, else-other-at}

pub loop-other-preserved : goal.loop-other-preserved
loop-other-preserved c =
    let i = c.loop-other.other in
    elim c.if-other-at.branch [
      | then-other-at w ↦
          subst (λ (xs : List Station). CarriedUpTo c.args.at (i + 1) c.args.stations.now xs) (sym w.stations-is)
          (carried-more c.args.at i c.args.stations.now c.loop-other.stations w.meet_between.new.stations c.loop-other.invariant w.meet_between.ensures)
      | else-other-at w ↦
          subst (λ (xs : List Station). CarriedUpTo c.args.at (i + 1) c.args.stations.now xs) (sym w.stations-is)
          (carried-skip c.args.at i c.args.stations.now c.loop-other.stations c.loop-other.invariant w.if-other-at.false)
    ]

pub returns-clause-carried : goal.returns-clause-carried
returns-clause-carried c =
    let some = c.requires.board in
    let all : c.loop-other.other ≡ length c.args.stations.now = omega (arith, c.loop-other-test.false, c.loop-other.auto.other-end) in
    all-carried-at some.scenario some.lawful c.args.stations.now c.loop-other.stations c.args.at c.requires.at some.stands c.requires.others
    (subst (λ (k : ℕ). CarriedUpTo c.args.at k c.args.stations.now c.loop-other.stations) all c.loop-other.invariant)

pub returns-clause-truly : goal.returns-clause-truly
returns-clause-truly c =
    let some = c.requires.board in
    let all : c.loop-other.other ≡ length c.args.stations.now = omega (arith, c.loop-other-test.false, c.loop-other.auto.other-end) in
    all-true-at some.scenario some.lawful c.args.stations.now c.loop-other.stations c.args.at some.stands
    (subst (λ (k : ℕ). CarriedUpTo c.args.at k c.args.stations.now c.loop-other.stations) all c.loop-other.invariant)
