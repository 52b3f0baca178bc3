use Rattle.std.proofs.Common.{◌≡◌, ℕ, ◌+◌, ◌-◌, suc, ◌<◌, length, refl, ◌∙◌, subst, arith}
use Rattle.board_runner.proofs.OnceLemmas.{placed}
use Rattle.board_runner.proofs.WaitRounds.{RoundsTo, last-round, next-round, no-rounds, one-round, rounds-out, some-run}
use Rattle.board_runner.proofs.line.waits.turn_until_settled.Goals as goal

pub loop-round-init : goal.loop-round-init
loop-round-init c = record {
  rounds = no-rounds c.args.line.now c.args.at c.args.limit (c.args.limit - 0) c.args.stations.now (omega arith);
  next = c.requires.next;
  carried = c.requires.carried;
  counts = refl;
}

pub turn_all-requires-clause-run : goal.turn_all-requires-clause-run
turn_all-requires-clause-run c = some-run c.args.line.now c.args.at c.loop-round.stations c.loop-round.invariant.next

-- a round after which one is complete
pub returns-then-is_settled-clause-run : goal.returns-then-is_settled-clause-run
returns-then-is_settled-clause-run c =
    let at = c.args.at in
    let mid = c.loop-round.stations in
    let new = c.turn_all.new.stations in
    let in_mid : at < length mid = omega (arith, c.requires.at, c.loop-round.auto.stations) in
    let in_new : at < length new = omega (arith, in_mid, c.turn_all.auto.stations) in
    let left : c.args.limit - c.loop-round._round ≡ suc (c.args.limit - (c.loop-round._round + 1)) = omega (arith, c.loop-round-test.true) in
    let there = placed new (length new) at c.index-stations-at.result refl in_new in
    last-round c.args.line.now at c.args.limit (c.args.limit - (c.loop-round._round + 1)) c.args.stations.now mid new in_mid in_new c.requires.waits c.loop-round.invariant.counts c.in_ok-turn_all.ensures.counts
    (subst (λ (n : ℕ). RoundsTo c.args.line.now at c.args.limit n c.args.stations.now mid) left c.loop-round.invariant.rounds) c.in_ok-turn_all.ensures.run _ there c.is_settled.result c.is_settled.ensures c.if-is_settled.true

pub returns-then-is_settled-clause-next : goal.returns-then-is_settled-clause-next
returns-then-is_settled-clause-next c =
    let mid = c.loop-round.stations in
    let new = c.turn_all.new.stations in
    next-round c.args.line.now c.args.at mid new (omega (arith, c.requires.at, c.loop-round.auto.stations, c.turn_all.auto.stations)) c.in_ok-turn_all.ensures.counts c.in_ok-turn_all.ensures.run c.loop-round.invariant.next

pub returns-then-is_settled-clause-counts : goal.returns-then-is_settled-clause-counts
returns-then-is_settled-clause-counts c = c.in_ok-turn_all.ensures.counts ∙ c.loop-round.invariant.counts

-- one after which none is
pub loop-round-preserved : goal.loop-round-preserved
loop-round-preserved c =
    let at = c.args.at in
    let mid = c.loop-round.stations in
    let new = c.turn_all.new.stations in
    let in_mid : at < length mid = omega (arith, c.requires.at, c.loop-round.auto.stations) in
    let in_new : at < length new = omega (arith, in_mid, c.turn_all.auto.stations) in
    let left : c.args.limit - c.loop-round._round ≡ suc (c.args.limit - (c.loop-round._round + 1)) = omega (arith, c.loop-round-test.true) in
    let there = placed new (length new) at c.index-stations-at.result refl in_new in
    record {
      rounds =
          one-round c.args.line.now at c.args.limit (c.args.limit - (c.loop-round._round + 1)) c.args.stations.now mid new in_mid in_new c.requires.waits c.loop-round.invariant.counts c.in_ok-turn_all.ensures.counts
          (subst (λ (n : ℕ). RoundsTo c.args.line.now at c.args.limit n c.args.stations.now mid) left c.loop-round.invariant.rounds) c.in_ok-turn_all.ensures.run _ there c.is_settled.result c.is_settled.ensures c.if-is_settled.false;
      next = next-round c.args.line.now at mid new in_new c.in_ok-turn_all.ensures.counts c.in_ok-turn_all.ensures.run c.loop-round.invariant.next;
      carried = c.in_ok-turn_all.ensures.carried;
      counts = c.in_ok-turn_all.ensures.counts ∙ c.loop-round.invariant.counts;
    }

-- the limit is reached
pub returns-clause-run : goal.returns-clause-run
returns-clause-run c =
    let none : c.args.limit - c.loop-round._round ≡ 0 = omega (arith, c.loop-round-test.false) in
    rounds-out c.args.line.now c.args.at c.args.limit c.args.stations.now c.loop-round.stations (subst (λ (n : ℕ). RoundsTo c.args.line.now c.args.at c.args.limit n c.args.stations.now c.loop-round.stations) none c.loop-round.invariant.rounds)
