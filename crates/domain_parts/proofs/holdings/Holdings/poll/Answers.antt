use Rattle.std.proofs.Common.{◌≡◌, rules, arith, sym, subst}
use Rattle.std.specs.Prelude.{Err}
use Rattle.domain_parts.specs.Parts.{shown}
use Rattle.domain_parts.specs.Waiting.{Polled}
use Rattle.domain_parts.proofs.WaitSteps.{goes-on, no-turns, with-lines}
use Rattle.domain_parts.proofs.WaitEnds.{polled-none, polled-one, polled-out}
use Rattle.domain_parts.proofs.holdings.Holdings.poll.Goals as goal

pub loop-init : goal.loop-init
loop-init g c = record {
  polling = no-turns g.P.PeerLane.Moved c.args.ids.now (shown c.args.self.now) c.args.journal.now.lines c.requires.awaited;
  rests = c.requires.rests;
}

-- ---- there is no memory for the next turn

pub returns-in_err-reserve-clause-polled : goal.returns-in_err-reserve-clause-polled
returns-in_err-reserve-clause-polled g c =
    let M = g.P.PeerLane.Moved in
    let ids = c.args.ids.now in
    let start = shown c.args.self.now in
    let now = shown c.loop.self in
    let lines = c.args.journal.now.lines in
    let reserved = with-lines M ids c.loop.counter start now lines c.loop.journal.lines c.reserve.new.self.lines c.loop.invariant.polling c.reserve.ensures.lines in
    let answers : c.from_residual.result ≡ Err c.in_err-reserve.field-0.0 = search rules in
    subst (λ r. Polled M c.args.limit ids start now lines c.reserve.new.self.lines r) (sym answers)
    (polled-out M c.args.limit ids c.loop.counter start now lines c.reserve.new.self.lines reserved c.in_err-reserve.field-0.0 c.loop-test.true)

-- ---- a turn

pub returns-in-Some-clause-polled : goal.returns-in-Some-clause-polled
returns-in-Some-clause-polled g c =
    let M = g.P.PeerLane.Moved in
    let ids = c.args.ids.now in
    let start = shown c.args.self.now in
    let now = shown c.loop.self in
    let lines = c.args.journal.now.lines in
    let reserved = with-lines M ids c.loop.counter start now lines c.loop.journal.lines c.reserve.new.self.lines c.loop.invariant.polling c.reserve.ensures.lines in
    polled-one M c.args.limit ids c.loop.counter start now lines c.reserve.new.self.lines reserved (shown c.take_turn.new.self) c.take_turn.new.journal.lines c.take_turn.result c.in-Some.at c.take_turn.ensures.turn c.loop-test.true (sym c.in-Some.ensures.first)

pub loop-preserved : goal.loop-preserved
loop-preserved g c =
    let M = g.P.PeerLane.Moved in
    let ids = c.args.ids.now in
    let start = shown c.args.self.now in
    let now = shown c.loop.self in
    let lines = c.args.journal.now.lines in
    let reserved = with-lines M ids c.loop.counter start now lines c.loop.journal.lines c.reserve.new.self.lines c.loop.invariant.polling c.reserve.ensures.lines in
    record {
      polling = goes-on M ids c.loop.counter start now (shown c.take_turn.new.self) lines c.reserve.new.self.lines c.take_turn.new.journal.lines c.take_turn.result reserved c.take_turn.ensures.turn (sym c.in_default.ensures.first);
      rests = c.take_turn.ensures.rests;
    }

-- ---- the limit is reached

pub returns-clause-polled : goal.returns-clause-polled
returns-clause-polled g c =
    polled-none g.P.PeerLane.Moved c.args.limit c.args.ids.now c.loop.counter (shown c.args.self.now) (shown c.loop.self) c.args.journal.now.lines c.loop.journal.lines c.loop.invariant.polling (omega (arith, c.loop-test.false, c.loop.auto.counter-end))
