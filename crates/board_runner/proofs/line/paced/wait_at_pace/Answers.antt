use Rattle.std.proofs.Common.{Bool, sym, subst, arith}
use Rattle.mc_journal.specs.Entry.{plain_answer}
use Rattle.board_runner.specs.declared.station.Station.{Station}
use Rattle.board_runner.specs.Waits.{EndsAtOnce, ids_named}
use Rattle.domain_core.specs.Waiting.{AreAwaited}
use Rattle.board_runner.proofs.PacedWaits.{ends-at-once, has-begun, later-count, later-drops, waits-out, waits-until}
use Rattle.board_runner.proofs.WaitLemmas.{wait-drops}
use Rattle.board_runner.proofs.line.paced.wait_at_pace.Goals as goal

-- it ends at once
pub returns-then-branch : goal.returns-then-branch
returns-then-branch g c =
    let line = c.args.line.now in
    ends-at-once line c.args.limit c.args.station.now c.end_at_once.new.station (subst (λ (b : Bool). EndsAtOnce line b c.args.station.now c.end_at_once.new.station) c.if-branch.true c.in_ok-end_at_once.ensures)

-- it begins
pub turn_at_pace-requires-clause-awaited : goal.turn_at_pace-requires-clause-awaited
turn_at_pace-requires-clause-awaited g c =
    let line = c.args.line.now in
    let begun = has-begun line c.args.station.now c.end_at_once.new.station (subst (λ (b : Bool). EndsAtOnce line b c.args.station.now c.end_at_once.new.station) c.if-branch.false c.in_ok-end_at_once.ensures) in
    subst (λ (x : Station). AreAwaited (ids_named x.ids line.call) x.domain) (sym begun.stays) begun.awaited

-- a request is complete after a turn
pub end_at_once-requires-then-branch-2-clause-count : goal.end_at_once-requires-then-branch-2-clause-count
end_at_once-requires-then-branch-2-clause-count g c =
    let line = c.args.line.now in
    let begun = has-begun line c.args.station.now c.end_at_once.new.station (subst (λ (b : Bool). EndsAtOnce line b c.args.station.now c.end_at_once.new.station) c.if-branch.false c.in_ok-end_at_once.ensures) in
    later-count line c.args.limit c.args.station.now c.end_at_once.new.station c.turn_at_pace.new.station begun _ c.in_ok-turn_at_pace.ensures c.requires.count

pub end_at_once-requires-then-branch-2-clause-drops : goal.end_at_once-requires-then-branch-2-clause-drops
end_at_once-requires-then-branch-2-clause-drops g c =
    let line = c.args.line.now in
    let begun = has-begun line c.args.station.now c.end_at_once.new.station (subst (λ (b : Bool). EndsAtOnce line b c.args.station.now c.end_at_once.new.station) c.if-branch.false c.in_ok-end_at_once.ensures) in
    later-drops line c.args.limit c.args.station.now c.end_at_once.new.station c.turn_at_pace.new.station begun _ c.in_ok-turn_at_pace.ensures c.requires.drops

pub returns-then-branch-2 : goal.returns-then-branch-2
returns-then-branch-2 g c =
    let line = c.args.line.now in
    let begun = has-begun line c.args.station.now c.end_at_once.new.station (subst (λ (b : Bool). EndsAtOnce line b c.args.station.now c.end_at_once.new.station) c.if-branch.false c.in_ok-end_at_once.ensures) in
    waits-until line c.args.limit c.args.station.now c.end_at_once.new.station c.turn_at_pace.new.station begun _ c.in_ok-turn_at_pace.ensures c.if-branch-2.true _ _ c.in_ok-end_at_once-2.ensures

-- the limit is reached
pub note_called-requires-clause-count : goal.note_called-requires-clause-count
note_called-requires-clause-count g c =
    let line = c.args.line.now in
    let begun = has-begun line c.args.station.now c.end_at_once.new.station (subst (λ (b : Bool). EndsAtOnce line b c.args.station.now c.end_at_once.new.station) c.if-branch.false c.in_ok-end_at_once.ensures) in
    later-count line c.args.limit c.args.station.now c.end_at_once.new.station c.turn_at_pace.new.station begun _ c.in_ok-turn_at_pace.ensures c.requires.count

pub note_called-requires-clause-drops : goal.note_called-requires-clause-drops
note_called-requires-clause-drops g c =
    let line = c.args.line.now in
    let begun = has-begun line c.args.station.now c.end_at_once.new.station (subst (λ (b : Bool). EndsAtOnce line b c.args.station.now c.end_at_once.new.station) c.if-branch.false c.in_ok-end_at_once.ensures) in
    later-drops line c.args.limit c.args.station.now c.end_at_once.new.station c.turn_at_pace.new.station begun _ c.in_ok-turn_at_pace.ensures c.requires.drops

pub note_called-requires-clause-drops_fit : goal.note_called-requires-clause-drops_fit
note_called-requires-clause-drops_fit g c = let none = wait-drops c.args.line.now.call (plain_answer c.refused.result.answer) c.requires.waits in omega (arith, none)

pub returns : goal.returns
returns g c =
    let line = c.args.line.now in
    let begun = has-begun line c.args.station.now c.end_at_once.new.station (subst (λ (b : Bool). EndsAtOnce line b c.args.station.now c.end_at_once.new.station) c.if-branch.false c.in_ok-end_at_once.ensures) in
    let none = c.refused.ensures.no_bytes in
    waits-out line c.args.limit c.args.station.now c.end_at_once.new.station c.turn_at_pace.new.station begun _ c.in_ok-turn_at_pace.ensures c.if-branch-2.false _ c.refused.result c.in_ok-note_called.ensures c.refused.ensures.answer c.refused.ensures.given c.refused.ensures.lent (omega (arith, none))
