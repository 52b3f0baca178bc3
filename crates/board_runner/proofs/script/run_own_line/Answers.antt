use Rattle.std.proofs.Common.{◌<◌, ◌≤◌, true, false, refl, rules, sym, arith}
use Rattle.board_model.specs.SerialRun.{more_calls}
use Rattle.board_runner.proofs.AnswerLemmas.{tries-keep, tries-answer, wait-answers}
use Rattle.board_runner.proofs.OwnRunLemmas.{more_may, none_may, counts-nothing, nothing-then, never-again, tried-more, tried-last}
use Rattle.board_runner.proofs.OwnWaits.{counts-wait, runs-next}
use Rattle.board_runner.proofs.script.run_own_line.Goals as goal

-- a wait
pub returns-in-Some-clause-run : goal.returns-in-Some-clause-run
returns-in-Some-clause-run g c = runs-next c.args.line.now c.in-Some.limit c.args.station.now c.wait_own.new.station (sym c.in-Some.ensures) c.requires.count c.in_ok-wait_own.ensures

pub returns-in-Some-clause-counts : goal.returns-in-Some-clause-counts
returns-in-Some-clause-counts g c = counts-wait c.args.line.now c.in-Some.limit c.args.station.now c.wait_own.new.station (sym c.in-Some.ensures) c.requires.drops c.in_ok-wait_own.ensures

pub returns-in-Some-clause-answered : goal.returns-in-Some-clause-answered
returns-in-Some-clause-answered g c = wait-answers c.args.line.now c.in-Some.limit c.args.station.now c.wait_own.new.station (sym c.in-Some.ensures) c.in_ok-wait_own.ensures

pub loop-call-init : goal.loop-call-init
loop-call-init g c = record { tried = λ s d ends lawful own comes h. h; counts = record { number = refl; dropped = refl; domain_number = refl }; answers = refl; room = c.requires.room }

pub call_own-requires-clause-count : goal.call_own-requires-clause-count
call_own-requires-clause-count g c = omega (arith, c.requires.count, c.loop-call.invariant.counts.number)

pub call_own-requires-clause-drops : goal.call_own-requires-clause-drops
call_own-requires-clause-drops g c = omega (arith, c.requires.drops, c.loop-call.invariant.counts.number, c.loop-call.invariant.counts.dropped)

-- a call that is made again
pub loop-call-preserved : goal.loop-call-preserved
loop-call-preserved g c =
    let line = c.args.line.now in
    let ended = c.in_ok-call_own.field-0 in
    let made = c.loop-call._call in
    let less : made < more_calls line.tries = omega (arith, c.loop-call-test.true, c.more_calls_of-call-end.ensures) in
    let tries = c.in_ok-call_own.ensures.tries in
    record {
      tried = tried-more line made ended.is_again ended.is_quiet c.args.station.now c.loop-call.station c.call_own.new.station less c.requires.count c.loop-call.invariant.counts c.loop-call.invariant.tried tries c.if-not-branch.false;
      counts = nothing-then c.args.station.now c.loop-call.station c.call_own.new.station c.loop-call.invariant.counts (counts-nothing line true ended.is_again ended.is_quiet c.loop-call.station c.call_own.new.station tries c.if-not-branch.false);
      answers = tries-keep line true ended.is_again ended.is_quiet c.args.station.now c.loop-call.station c.call_own.new.station c.loop-call.invariant.answers tries c.if-not-branch.false;
      room = omega (arith, c.loop-call.invariant.room, c.call_own.auto.room);
    }

-- the last one, before the tries are used up and after
pub returns-then-not-branch-clause-run : goal.returns-then-not-branch-clause-run
returns-then-not-branch-clause-run g c =
    let line = c.args.line.now in
    let ended = c.in_ok-call_own.field-0 in
    let made = c.loop-call._call in
    let less : made < more_calls line.tries = omega (arith, c.loop-call-test.true, c.more_calls_of-call-end.ensures) in
    tried-last line made true ended.is_again ended.is_quiet c.args.station.now c.loop-call.station c.call_own.new.station (search rules) (more_may line.tries made less) c.requires.count c.loop-call.invariant.counts c.loop-call.invariant.tried c.in_ok-call_own.ensures.tries
    c.if-not-branch.true

pub returns-clause-run : goal.returns-clause-run
returns-clause-run g c =
    let line = c.args.line.now in
    let ended = c.in_ok-call_own-2.field-0 in
    let made = c.loop-call._call in
    let none : more_calls line.tries ≤ made = omega (arith, c.loop-call-test.false, c.more_calls_of-call-end.ensures) in
    let tries = c.in_ok-call_own-2.ensures.tries in
    tried-last line made false ended.is_again ended.is_quiet c.args.station.now c.loop-call.station c.call_own-2.new.station (search rules) (none_may line.tries made none) c.requires.count c.loop-call.invariant.counts c.loop-call.invariant.tried tries
    (never-again line ended.is_again ended.is_quiet c.loop-call.station c.call_own-2.new.station tries)

pub returns-then-not-branch-clause-answered : goal.returns-then-not-branch-clause-answered
returns-then-not-branch-clause-answered g c =
    let ended = c.in_ok-call_own.field-0 in
    tries-answer c.args.line.now true ended.is_again ended.is_quiet c.args.station.now c.loop-call.station c.call_own.new.station c.loop-call.invariant.answers c.in_ok-call_own.ensures.tries c.if-not-branch.true

pub returns-clause-answered : goal.returns-clause-answered
returns-clause-answered g c =
    let line = c.args.line.now in
    let ended = c.in_ok-call_own-2.field-0 in
    let tries = c.in_ok-call_own-2.ensures.tries in
    tries-answer line false ended.is_again ended.is_quiet c.args.station.now c.loop-call.station c.call_own-2.new.station c.loop-call.invariant.answers tries
    (never-again line ended.is_again ended.is_quiet c.loop-call.station c.call_own-2.new.station tries)
