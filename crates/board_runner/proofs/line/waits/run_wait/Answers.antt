use Rattle.std.proofs.Common.{ℕ, ◌<◌, Bool, Option, length, refl, ◌∙◌, sym, subst, arith}
use Rattle.std.specs.Prelude.{IsSome}
use Rattle.board_runner.specs.Waits.{CountsTest, RoundsUntil, TestsWait}
use Rattle.board_runner.proofs.StationCounts.{one_line_after}
use Rattle.board_runner.proofs.WaitRounds.{ended-after, fits-kept, next-begun, ran-at-once, ran-out, ran-until}
use Rattle.board_runner.proofs.line.waits.run_wait.Goals as goal

-- it needs no turn
pub test_wait-requires-clause-waits : goal.test_wait-requires-clause-waits
test_wait-requires-clause-waits c = subst (λ (o : Option ℕ). IsSome o) (sym c.requires.limit) refl

pub returns-then-branch-clause-run : goal.returns-then-branch-clause-run
returns-then-branch-clause-run c =
    ran-at-once c.args.line.now c.args.limit c.args.at c.args.stations.now c.requires.limit c.test_wait.new.stations
    (subst (λ (b : Bool). TestsWait c.args.line.now b c.args.at c.args.stations.now c.test_wait.new.stations) c.if-branch.true c.in_ok-test_wait.ensures.run)

pub returns-then-branch-clause-counts : goal.returns-then-branch-clause-counts
returns-then-branch-clause-counts c = subst (λ (b : Bool). CountsTest b c.args.at c.args.stations.now c.test_wait.new.stations) c.if-branch.true c.in_ok-test_wait.ensures.counts

-- it begins
pub turn_until_settled-requires-clause-waits : goal.turn_until_settled-requires-clause-waits
turn_until_settled-requires-clause-waits c = subst (λ (o : Option ℕ). IsSome o) (sym c.requires.limit) refl

pub turn_until_settled-requires-clause-next : goal.turn_until_settled-requires-clause-next
turn_until_settled-requires-clause-next c =
    let old = c.args.stations.now in
    let mid = c.test_wait.new.stations in
    let begun = subst (λ (b : Bool). TestsWait c.args.line.now b c.args.at old mid) c.if-branch.false c.in_ok-test_wait.ensures.run in
    let kept = subst (λ (b : Bool). CountsTest b c.args.at old mid) c.if-branch.false c.in_ok-test_wait.ensures.counts in
    next-begun c.args.line.now c.args.at old mid (omega (arith, c.requires.at, c.test_wait.auto.stations)) kept begun c.requires.next

-- a request is complete after a round
pub test_wait-requires-then-branch-2-clause-counts : goal.test_wait-requires-then-branch-2-clause-counts
test_wait-requires-then-branch-2-clause-counts c =
    let old = c.args.stations.now in
    let mid = c.test_wait.new.stations in
    let kept = subst (λ (b : Bool). CountsTest b c.args.at old mid) c.if-branch.false c.in_ok-test_wait.ensures.counts in
    fits-kept old c.turn_until_settled.new.stations (c.in_ok-turn_until_settled.ensures.counts ∙ kept) c.requires.counts

pub test_wait-requires-then-branch-2-clause-waits : goal.test_wait-requires-then-branch-2-clause-waits
test_wait-requires-then-branch-2-clause-waits c = subst (λ (o : Option ℕ). IsSome o) (sym c.requires.limit) refl

pub returns-then-branch-2-clause-run : goal.returns-then-branch-2-clause-run
returns-then-branch-2-clause-run c =
    let line = c.args.line.now in
    let at = c.args.at in
    let old = c.args.stations.now in
    let mid = c.test_wait.new.stations in
    let later = c.turn_until_settled.new.stations in
    let begun = subst (λ (b : Bool). TestsWait line b at old mid) c.if-branch.false c.in_ok-test_wait.ensures.run in
    let kept = subst (λ (b : Bool). CountsTest b at old mid) c.if-branch.false c.in_ok-test_wait.ensures.counts in
    let until = subst (λ (b : Bool). RoundsUntil line b c.args.limit at mid later) c.if-branch-2.true c.in_ok-turn_until_settled.ensures.run in
    let in_mid : at < length mid = omega (arith, c.requires.at, c.test_wait.auto.stations) in
    let in_later : at < length later = omega (arith, in_mid, c.turn_until_settled.auto.stations) in
    let stays = c.in_ok-turn_until_settled.ensures.counts in
    let ended = ended-after line c.args.limit at old c.requires.limit mid in_mid begun kept later c.test_wait-then-branch-2.new.stations c.in_ok-test_wait-2.field-0 in_later stays until c.in_ok-test_wait-2.ensures.run c.requires.next in
    ran-until line c.args.limit at old c.requires.limit mid in_mid begun kept later c.test_wait-then-branch-2.new.stations in_later stays until
    (subst (λ (b : Bool). TestsWait line b at later c.test_wait-then-branch-2.new.stations) ended c.in_ok-test_wait-2.ensures.run)

pub returns-then-branch-2-clause-counts : goal.returns-then-branch-2-clause-counts
returns-then-branch-2-clause-counts c =
    let line = c.args.line.now in
    let at = c.args.at in
    let old = c.args.stations.now in
    let mid = c.test_wait.new.stations in
    let later = c.turn_until_settled.new.stations in
    let begun = subst (λ (b : Bool). TestsWait line b at old mid) c.if-branch.false c.in_ok-test_wait.ensures.run in
    let kept = subst (λ (b : Bool). CountsTest b at old mid) c.if-branch.false c.in_ok-test_wait.ensures.counts in
    let until = subst (λ (b : Bool). RoundsUntil line b c.args.limit at mid later) c.if-branch-2.true c.in_ok-turn_until_settled.ensures.run in
    let in_mid : at < length mid = omega (arith, c.requires.at, c.test_wait.auto.stations) in
    let in_later : at < length later = omega (arith, in_mid, c.turn_until_settled.auto.stations) in
    let stays = c.in_ok-turn_until_settled.ensures.counts in
    let ended = ended-after line c.args.limit at old c.requires.limit mid in_mid begun kept later c.test_wait-then-branch-2.new.stations c.in_ok-test_wait-2.field-0 in_later stays until c.in_ok-test_wait-2.ensures.run c.requires.next in
    one_line_after at old later c.test_wait-then-branch-2.new.stations (stays ∙ kept) (subst (λ (b : Bool). CountsTest b at later c.test_wait-then-branch-2.new.stations) ended c.in_ok-test_wait-2.ensures.counts)

-- the limit is reached
pub time_out-requires-clause-counts : goal.time_out-requires-clause-counts
time_out-requires-clause-counts c =
    let old = c.args.stations.now in
    let mid = c.test_wait.new.stations in
    let kept = subst (λ (b : Bool). CountsTest b c.args.at old mid) c.if-branch.false c.in_ok-test_wait.ensures.counts in
    fits-kept old c.turn_until_settled.new.stations (c.in_ok-turn_until_settled.ensures.counts ∙ kept) c.requires.counts

pub time_out-requires-clause-waits : goal.time_out-requires-clause-waits
time_out-requires-clause-waits c = subst (λ (o : Option ℕ). IsSome o) (sym c.requires.limit) refl

pub returns-clause-run : goal.returns-clause-run
returns-clause-run c =
    let line = c.args.line.now in
    let at = c.args.at in
    let old = c.args.stations.now in
    let mid = c.test_wait.new.stations in
    let later = c.turn_until_settled.new.stations in
    let begun = subst (λ (b : Bool). TestsWait line b at old mid) c.if-branch.false c.in_ok-test_wait.ensures.run in
    let kept = subst (λ (b : Bool). CountsTest b at old mid) c.if-branch.false c.in_ok-test_wait.ensures.counts in
    let until = subst (λ (b : Bool). RoundsUntil line b c.args.limit at mid later) c.if-branch-2.false c.in_ok-turn_until_settled.ensures.run in
    let in_mid : at < length mid = omega (arith, c.requires.at, c.test_wait.auto.stations) in
    let in_later : at < length later = omega (arith, in_mid, c.turn_until_settled.auto.stations) in
    ran-out line c.args.limit at old c.requires.limit mid in_mid begun kept later c.time_out.new.stations in_later c.in_ok-turn_until_settled.ensures.counts until c.in_ok-time_out.ensures.run

pub returns-clause-counts : goal.returns-clause-counts
returns-clause-counts c =
    let at = c.args.at in
    let old = c.args.stations.now in
    let mid = c.test_wait.new.stations in
    let kept = subst (λ (b : Bool). CountsTest b at old mid) c.if-branch.false c.in_ok-test_wait.ensures.counts in
    one_line_after at old c.turn_until_settled.new.stations c.time_out.new.stations (c.in_ok-turn_until_settled.ensures.counts ∙ kept) c.in_ok-time_out.ensures.counts
