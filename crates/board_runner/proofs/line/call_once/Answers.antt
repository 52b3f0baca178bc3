use Rattle.std.proofs.Common.{length, refl}
use Rattle.board_runner.proofs.OnceLemmas.{placed, calls_truly, calls_idly, calls_and_carries, once_board, once_but, once_still}
use Rattle.board_runner.proofs.StationCounts.{count_at, drops_at, counts_call, counts_call_after}
use Rattle.board_runner.proofs.line.call_once.Goals as goal

pub call_and_note-requires-clause-count : goal.call_and_note-requires-clause-count
call_and_note-requires-clause-count c =
    let there = placed c.args.stations.now (length c.args.stations.now) c.args.at c.index-stations-at.result refl c.requires.at in
    count_at c.args.line.now c.args.stations.now c.args.at _ c.requires.next there

pub call_and_note-requires-clause-drops : goal.call_and_note-requires-clause-drops
call_and_note-requires-clause-drops c =
    let there = placed c.args.stations.now (length c.args.stations.now) c.args.at c.index-stations-at.result refl c.requires.at in
    drops_at c.args.stations.now c.args.at _ there c.requires.counts

pub carry_all-requires-clause-board : goal.carry_all-requires-clause-board
carry_all-requires-clause-board c =
    let there = placed c.args.stations.now (length c.args.stations.now) c.args.at c.index-stations-at.result refl c.requires.at in
    once_board c.args.line.now c.args.may_try c.in_ok-ended.ended.is_again c.in_ok-ended.ended.is_quiet c.args.stations.now c.args.at _ c.call_and_note.new.station c.requires.carried there c.in_ok-ended.ensures.tries c.requires.next

pub carry_all-requires-clause-others : goal.carry_all-requires-clause-others
carry_all-requires-clause-others c =
    let there = placed c.args.stations.now (length c.args.stations.now) c.args.at c.index-stations-at.result refl c.requires.at in
    once_but c.args.line.now c.args.may_try c.in_ok-ended.ended.is_again c.in_ok-ended.ended.is_quiet c.args.stations.now c.args.at _ c.call_and_note.new.station c.requires.carried there c.in_ok-ended.ensures.tries c.requires.next

pub returns-then-not-ended-clause-run : goal.returns-then-not-ended-clause-run
returns-then-not-ended-clause-run c =
    let there = placed c.args.stations.now (length c.args.stations.now) c.args.at c.index-stations-at.result refl c.requires.at in
    calls_and_carries c.args.line.now c.args.may_try c.in_ok-ended.ended.is_again c.args.at c.args.stations.now _ c.carry_all.new.stations (calls_truly c.args.line.now c.args.may_try c.in_ok-ended.ended.is_again c.in_ok-ended.ended.is_quiet c.args.stations.now c.args.at _ c.call_and_note.new.station c.requires.carried there c.in_ok-ended.ensures.tries c.carry_all.ensures.truly) c.carry_all.ensures.run

pub returns-then-not-ended-clause-counts : goal.returns-then-not-ended-clause-counts
returns-then-not-ended-clause-counts c =
    let there = placed c.args.stations.now (length c.args.stations.now) c.args.at c.index-stations-at.result refl c.requires.at in
    counts_call_after c.in_ok-ended.ended.is_again c.args.at c.args.stations.now _ c.carry_all.new.stations (counts_call c.args.stations.now c.args.stations.now c.args.at _ c.call_and_note.new.station refl there c.args.line.now c.args.may_try c.in_ok-ended.ended.is_again c.in_ok-ended.ended.is_quiet c.in_ok-ended.ensures.tries) c.carry_all.ensures.counts

pub returns-else-not-ended-clause-run : goal.returns-else-not-ended-clause-run
returns-else-not-ended-clause-run c =
    let there = placed c.args.stations.now (length c.args.stations.now) c.args.at c.index-stations-at.result refl c.requires.at in
    calls_idly c.args.line.now c.args.may_try c.in_ok-ended.ended.is_again c.in_ok-ended.ended.is_quiet c.args.stations.now c.args.at _ c.call_and_note.new.station c.requires.carried there c.in_ok-ended.ensures.tries c.if-not-ended.false

pub returns-else-not-ended-clause-carried : goal.returns-else-not-ended-clause-carried
returns-else-not-ended-clause-carried c =
    let there = placed c.args.stations.now (length c.args.stations.now) c.args.at c.index-stations-at.result refl c.requires.at in
    once_still c.args.line.now c.args.may_try c.in_ok-ended.ended.is_again c.in_ok-ended.ended.is_quiet c.args.stations.now c.args.at _ c.call_and_note.new.station c.requires.carried there c.in_ok-ended.ensures.tries c.requires.next c.in_ok-ended.ended.is_quiet c.if-not-ended.false c.in_ok-ended.ensures.quiet

pub returns-else-not-ended-clause-counts : goal.returns-else-not-ended-clause-counts
returns-else-not-ended-clause-counts c =
    let there = placed c.args.stations.now (length c.args.stations.now) c.args.at c.index-stations-at.result refl c.requires.at in
    counts_call c.args.stations.now c.args.stations.now c.args.at _ c.call_and_note.new.station refl there c.args.line.now c.args.may_try c.in_ok-ended.ended.is_again c.in_ok-ended.ended.is_quiet c.in_ok-ended.ensures.tries
