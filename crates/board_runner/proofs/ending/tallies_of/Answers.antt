use Rattle.std.proofs.Common.{◌+◌, take, sym, subst, List}
use Rattle.board_numbers.specs.declared.tally.Tally.{Tally}
use Rattle.board_runner.specs.EndedStations.{TellStations}
use Rattle.board_runner.proofs.TallyLemmas.{tell-more}
use Rattle.board_runner.proofs.ending.tallies_of.Goals as goal

pub loop-at-preserved : goal.loop-at-preserved
loop-at-preserved c =
    let more = tell-more c.args.stations.now c.loop-at.tallies c.loop-at.at c.index-stations-at.result c.tally_of-tally.result c.loop-at-test.true c.index-stations-at.is c.loop-at.invariant c.tally_of-tally.ensures in
    subst (λ (ys : List Tally). TellStations (take (c.loop-at.at + 1) c.args.stations.now) ys) (sym c.in_ok-add.ensures) more
