use Rattle.std.proofs.Common.{length, refl, arith}
use Rattle.mc_journal.specs.Entry.{plain_answer}
use Rattle.board_runner.proofs.OnceLemmas.{placed}
use Rattle.board_runner.proofs.StationCounts.{count_at, drops_at}
use Rattle.board_runner.proofs.WaitLemmas.{wait-drops}
use Rattle.board_runner.proofs.WaitTests.{timed-out, timed-out-carried, timed-out-counts}
use Rattle.board_runner.proofs.line.waits.time_out.Goals as goal

pub note_called-requires-clause-count : goal.note_called-requires-clause-count
note_called-requires-clause-count c =
    let there = placed c.args.stations.now (length c.args.stations.now) c.args.at c.index-stations-at.result refl c.requires.at in
    count_at c.args.line.now c.args.stations.now c.args.at _ c.requires.next there

pub note_called-requires-clause-drops : goal.note_called-requires-clause-drops
note_called-requires-clause-drops c =
    let there = placed c.args.stations.now (length c.args.stations.now) c.args.at c.index-stations-at.result refl c.requires.at in
    drops_at c.args.stations.now c.args.at _ there c.requires.counts

pub note_called-requires-clause-drops_fit : goal.note_called-requires-clause-drops_fit
note_called-requires-clause-drops_fit c = let none = wait-drops c.args.line.now.call (plain_answer c.refused-timeout.result.answer) c.requires.waits in omega (arith, none)

pub returns-clause-run : goal.returns-clause-run
returns-clause-run c =
    let there = placed c.args.stations.now (length c.args.stations.now) c.args.at c.index-stations-at.result refl c.requires.at in
    let made = c.refused-timeout.ensures in
    timed-out c.args.line.now c.requires.waits c.args.stations.now c.args.at _ c.note_called.new.station there c.refused-timeout.result c.in_ok-note_called.ensures made.answer made.given made.lent

pub returns-clause-carried : goal.returns-clause-carried
returns-clause-carried c =
    let there = placed c.args.stations.now (length c.args.stations.now) c.args.at c.index-stations-at.result refl c.requires.at in
    timed-out-carried c.args.line.now c.requires.waits c.args.stations.now c.args.at _ c.note_called.new.station there c.refused-timeout.result c.in_ok-note_called.ensures c.requires.carried

pub returns-clause-counts : goal.returns-clause-counts
returns-clause-counts c =
    let there = placed c.args.stations.now (length c.args.stations.now) c.args.at c.index-stations-at.result refl c.requires.at in
    timed-out-counts c.args.line.now c.requires.waits c.args.stations.now c.args.at _ c.note_called.new.station there c.refused-timeout.result c.in_ok-note_called.ensures
