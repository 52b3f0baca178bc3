use Rattle.std.proofs.Common.{length, refl}
use Rattle.board_runner.proofs.OnceLemmas.{placed}
use Rattle.board_runner.proofs.StationCounts.{count_at, drops_at}
use Rattle.board_runner.proofs.WaitTests.{counts-test, counts-test-after, tested-board, tested-but, tests-and-carries, tests-wait}
use Rattle.board_runner.proofs.line.waits.test_wait.Goals as goal

pub end_at_once-requires-clause-count : goal.end_at_once-requires-clause-count
end_at_once-requires-clause-count c =
    let there = placed c.args.stations.now (length c.args.stations.now) c.args.at c.index-stations-at.result refl c.requires.at in
    count_at c.args.line.now c.args.stations.now c.args.at _ c.requires.next there

pub end_at_once-requires-clause-drops : goal.end_at_once-requires-clause-drops
end_at_once-requires-clause-drops c =
    let there = placed c.args.stations.now (length c.args.stations.now) c.args.at c.index-stations-at.result refl c.requires.at in
    drops_at c.args.stations.now c.args.at _ there c.requires.counts

pub carry_all-requires-clause-board : goal.carry_all-requires-clause-board
carry_all-requires-clause-board c =
    let there = placed c.args.stations.now (length c.args.stations.now) c.args.at c.index-stations-at.result refl c.requires.at in
    tested-board c.args.line.now c.requires.waits c.in_ok-has_ended.has_ended c.args.stations.now c.args.at _ c.end_at_once.new.station there c.in_ok-has_ended.ensures c.requires.next

pub carry_all-requires-clause-others : goal.carry_all-requires-clause-others
carry_all-requires-clause-others c =
    let there = placed c.args.stations.now (length c.args.stations.now) c.args.at c.index-stations-at.result refl c.requires.at in
    tested-but c.args.line.now c.requires.waits c.in_ok-has_ended.has_ended c.args.stations.now c.args.at _ c.end_at_once.new.station there c.in_ok-has_ended.ensures c.requires.next c.requires.carried

pub returns-clause-run : goal.returns-clause-run
returns-clause-run c =
    let there = placed c.args.stations.now (length c.args.stations.now) c.args.at c.index-stations-at.result refl c.requires.at in
    tests-and-carries c.args.line.now c.in_ok-has_ended.has_ended c.args.at c.args.stations.now _ c.carry_all.new.stations
    (tests-wait c.args.line.now c.requires.waits c.in_ok-has_ended.has_ended c.args.stations.now c.args.at _ c.end_at_once.new.station there c.in_ok-has_ended.ensures) c.carry_all.ensures.run

pub returns-clause-counts : goal.returns-clause-counts
returns-clause-counts c =
    let there = placed c.args.stations.now (length c.args.stations.now) c.args.at c.index-stations-at.result refl c.requires.at in
    counts-test-after c.in_ok-has_ended.has_ended c.args.at c.args.stations.now _ c.carry_all.new.stations
    (counts-test c.args.line.now c.requires.waits c.in_ok-has_ended.has_ended c.args.stations.now c.args.at _ c.end_at_once.new.station there c.in_ok-has_ended.ensures) c.carry_all.ensures.counts
