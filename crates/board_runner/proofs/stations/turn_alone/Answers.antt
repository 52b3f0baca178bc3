use Rattle.std.proofs.Common.{length, refl, ◌∙◌}
use Rattle.board_runner.proofs.AloneLemmas.{alone_board, alone_counts, alone_but, alone_still, turns_truly, turns_idly, turns_and_carries}
use Rattle.board_runner.proofs.OnceLemmas.{placed}
use Rattle.board_runner.proofs.stations.turn_alone.Goals as goal

pub carry_all-requires-clause-board : goal.carry_all-requires-clause-board
carry_all-requires-clause-board c =
    let there = placed c.args.stations.now (length c.args.stations.now) c.args.at c.index-stations-at.result refl c.requires.at in
    alone_board c.args.stations.now c.args.at _ c.turn-is_idle.new.self c.turn-is_idle.new.journal there c.requires.carried _ _ c.reserve.ensures.lines c.turn-is_idle.ensures.turn c.requires.run

pub carry_all-requires-clause-others : goal.carry_all-requires-clause-others
carry_all-requires-clause-others c =
    let there = placed c.args.stations.now (length c.args.stations.now) c.args.at c.index-stations-at.result refl c.requires.at in
    alone_but c.args.stations.now c.args.at _ c.turn-is_idle.new.self c.turn-is_idle.new.journal there c.requires.carried _ _ c.reserve.ensures.lines c.turn-is_idle.ensures.turn c.requires.run

pub returns-then-not-is_idle-clause-run : goal.returns-then-not-is_idle-clause-run
returns-then-not-is_idle-clause-run c =
    let there = placed c.args.stations.now (length c.args.stations.now) c.args.at c.index-stations-at.result refl c.requires.at in
    turns_and_carries c.args.at c.args.stations.now _ c.carry_all.new.stations (turns_truly c.args.stations.now c.args.at _ c.turn-is_idle.new.self c.turn-is_idle.new.journal there c.requires.carried _ _ c.reserve.ensures.lines c.turn-is_idle.ensures.turn c.carry_all.ensures.truly) c.carry_all.ensures.run

pub returns-then-not-is_idle-clause-counts : goal.returns-then-not-is_idle-clause-counts
returns-then-not-is_idle-clause-counts c =
    let there = placed c.args.stations.now (length c.args.stations.now) c.args.at c.index-stations-at.result refl c.requires.at in
    c.carry_all.ensures.counts ∙ alone_counts c.args.stations.now c.args.at _ c.turn-is_idle.new.self c.turn-is_idle.new.journal there c.requires.carried _ _ c.reserve.ensures.lines c.turn-is_idle.ensures.turn

pub returns-else-not-is_idle-clause-run : goal.returns-else-not-is_idle-clause-run
returns-else-not-is_idle-clause-run c =
    let there = placed c.args.stations.now (length c.args.stations.now) c.args.at c.index-stations-at.result refl c.requires.at in
    turns_idly c.args.stations.now c.args.at _ c.turn-is_idle.new.self c.turn-is_idle.new.journal there c.requires.carried _ _ c.reserve.ensures.lines c.turn-is_idle.ensures.turn c.if-not-is_idle.false

pub returns-else-not-is_idle-clause-carried : goal.returns-else-not-is_idle-clause-carried
returns-else-not-is_idle-clause-carried c =
    let there = placed c.args.stations.now (length c.args.stations.now) c.args.at c.index-stations-at.result refl c.requires.at in
    alone_still c.args.stations.now c.args.at _ c.turn-is_idle.new.self c.turn-is_idle.new.journal there c.requires.carried _ _ c.reserve.ensures.lines c.turn-is_idle.ensures.turn c.requires.run c.if-not-is_idle.false

pub returns-else-not-is_idle-clause-counts : goal.returns-else-not-is_idle-clause-counts
returns-else-not-is_idle-clause-counts c =
    let there = placed c.args.stations.now (length c.args.stations.now) c.args.at c.index-stations-at.result refl c.requires.at in
    alone_counts c.args.stations.now c.args.at _ c.turn-is_idle.new.self c.turn-is_idle.new.journal there c.requires.carried _ _ c.reserve.ensures.lines c.turn-is_idle.ensures.turn
