use Rattle.std.proofs.Common.{◌≡◌, ℕ, ◌+◌, ◌-◌, suc, ◌<◌, Bool, true, length, ◌∙◌, subst, arith}
use Rattle.board_runner.specs.Runs.{CallsLine, CountsCall}
use Rattle.board_runner.proofs.StationCounts.{one_line_after}
use Rattle.board_runner.proofs.TriesLemmas.{TriedTo, tried_again, tried_called, tried_last, not_again, some_called, some_again}
use Rattle.board_runner.proofs.line.run_line.Goals as goal

-- the last call, before the tries are used up
pub returns-then-not-branch-clause-run : goal.returns-then-not-branch-clause-run
returns-then-not-branch-clause-run c =
    let line = c.args.line.now in
    let at = c.args.at in
    let old = c.args.stations.now in
    let mid = c.loop-call.stations in
    let end = c.more_calls_of-call-end.result in
    let left : end - c.loop-call._call ≡ suc (end - (c.loop-call._call + 1)) = omega (arith, c.loop-call-test.true) in
    let in_mid : at < length mid = omega (arith, c.requires.at, c.loop-call.auto.stations) in
    tried_called line at (end - (c.loop-call._call + 1)) old mid c.call_once.new.stations in_mid c.loop-call.invariant.counts
    (subst (λ (n : ℕ). TriedTo line at n old mid) left c.loop-call.invariant.tried)
    (subst (λ (b : Bool). CallsLine line true b at mid c.call_once.new.stations) c.if-not-branch.true c.in_ok-call_once.ensures.run)

pub returns-then-not-branch-clause-counts : goal.returns-then-not-branch-clause-counts
returns-then-not-branch-clause-counts c =
    let mid = c.loop-call.stations in
    one_line_after c.args.at c.args.stations.now mid c.call_once.new.stations c.loop-call.invariant.counts
    (subst (λ (b : Bool). CountsCall b c.args.at mid c.call_once.new.stations) c.if-not-branch.true c.in_ok-call_once.ensures.counts)

-- one that is made again
pub others_turn-requires-clause-run : goal.others_turn-requires-clause-run
others_turn-requires-clause-run c = some_called c.args.line.now c.args.at true c.in_ok-call_once.field-0 c.loop-call.stations c.call_once.new.stations c.loop-call.invariant.next c.in_ok-call_once.ensures.run

pub loop-call-preserved : goal.loop-call-preserved
loop-call-preserved c =
    let line = c.args.line.now in
    let at = c.args.at in
    let old = c.args.stations.now in
    let mid = c.loop-call.stations in
    let called = c.call_once.new.stations in
    let new = c.others_turn.new.stations in
    let end = c.more_calls_of-call-end.result in
    let left : end - c.loop-call._call ≡ suc (end - (c.loop-call._call + 1)) = omega (arith, c.loop-call-test.true) in
    let in_mid : at < length mid = omega (arith, c.requires.at, c.loop-call.auto.stations) in
    let in_called : at < length called = omega (arith, in_mid, c.call_once.auto.stations) in
    let in_new : at < length new = omega (arith, in_called, c.others_turn.auto.stations) in
    let calls = subst (λ (b : Bool). CallsLine line true b at mid called) c.if-not-branch.false c.in_ok-call_once.ensures.run in
    let counts = subst (λ (b : Bool). CountsCall b at mid called) c.if-not-branch.false c.in_ok-call_once.ensures.counts in
    record {
      tried = tried_again line at (end - (c.loop-call._call + 1)) old mid called new in_mid in_called c.loop-call.invariant.counts counts (subst (λ (n : ℕ). TriedTo line at n old mid) left c.loop-call.invariant.tried) calls c.in_ok-others_turn.ensures.run;
      next = some_again line at mid called new in_called in_new counts c.in_ok-others_turn.ensures.counts c.loop-call.invariant.next calls c.in_ok-others_turn.ensures.run;
      carried = c.in_ok-others_turn.ensures.carried;
      counts = c.in_ok-others_turn.ensures.counts ∙ counts ∙ c.loop-call.invariant.counts;
      room = omega (arith, c.loop-call.invariant.room, c.call_once.auto.room);
    }

-- the last call that may be made
pub returns-clause-run : goal.returns-clause-run
returns-clause-run c =
    let line = c.args.line.now in
    let at = c.args.at in
    let old = c.args.stations.now in
    let mid = c.loop-call.stations in
    let none : c.more_calls_of-call-end.result - c.loop-call._call ≡ 0 = omega (arith, c.loop-call-test.false) in
    tried_last line at c.in_ok-call_once-2.field-0 old mid c.call_once-2.new.stations (omega (arith, c.requires.at, c.loop-call.auto.stations)) c.loop-call.invariant.counts
    (subst (λ (n : ℕ). TriedTo line at n old mid) none c.loop-call.invariant.tried) c.in_ok-call_once-2.ensures.run

pub returns-clause-counts : goal.returns-clause-counts
returns-clause-counts c =
    let mid = c.loop-call.stations in
    let done = not_again c.args.line.now c.args.at c.in_ok-call_once-2.field-0 mid c.call_once-2.new.stations c.loop-call.invariant.next c.in_ok-call_once-2.ensures.run in
    one_line_after c.args.at c.args.stations.now mid c.call_once-2.new.stations c.loop-call.invariant.counts
    (subst (λ (b : Bool). CountsCall b c.args.at mid c.call_once-2.new.stations) done c.in_ok-call_once-2.ensures.counts)
