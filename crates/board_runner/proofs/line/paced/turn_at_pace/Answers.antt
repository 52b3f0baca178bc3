use Rattle.std.proofs.Common.{arith}
use Rattle.board_runner.proofs.PacedWaits.{no-turns-alone, polls-on, polls-out, polls-to}
use Rattle.board_runner.proofs.line.paced.turn_at_pace.Goals as goal

pub loop-turn-init : goal.loop-turn-init
loop-turn-init g c = no-turns-alone c.args.line.now c.args.station.now c.requires.awaited

-- a turn after which a request is complete
pub returns-then-is_settled : goal.returns-then-is_settled
returns-then-is_settled g c =
    polls-to c.args.line.now c.loop-turn._turn c.args.station.now c.loop-turn.station c.loop-turn.invariant c.turn-is_idle.new.self c.reserve.new.self c.turn-is_idle.new.journal c.turn-is_idle.result c.reserve.ensures.lines c.turn-is_idle.ensures.turn
    c.args.limit (omega (arith, c.loop-turn-test.true)) c.is_settled.result c.is_settled.ensures c.if-is_settled.true

-- and one after which none is
pub loop-turn-preserved : goal.loop-turn-preserved
loop-turn-preserved g c =
    polls-on c.args.line.now c.loop-turn._turn c.args.station.now c.loop-turn.station c.loop-turn.invariant c.turn-is_idle.new.self c.reserve.new.self c.turn-is_idle.new.journal c.turn-is_idle.result c.reserve.ensures.lines c.turn-is_idle.ensures.turn
    c.is_settled.result c.is_settled.ensures c.if-is_settled.false

pub returns : goal.returns
returns g c = polls-out c.args.line.now c.args.limit c.loop-turn._turn c.args.station.now c.loop-turn.station (omega (arith, c.loop-turn-test.false, c.loop-turn.auto._turn-end)) c.loop-turn.invariant
