use Rattle.std.proofs.Common.{◌∙◌, ap, arith, sym}
use Rattle.board_model.specs.Turn.{takes_named}
use Rattle.domain_parts.specs.LaneSeen.{LaneSeen}
use Rattle.domain_parts.specs.NumberedDeeds.{number_in}
use Rattle.domain_parts.specs.Parts.{peer_at, state_of}
use Rattle.domain_parts.specs.VisitMoves.{taking}
use Rattle.domain_parts.proofs.Turning.{did-numbers, doing-ends, same-length}
use Rattle.domain_parts.proofs.Visiting.{Takes-more, Takes-none, taken-shown}
use Rattle.domain_parts.proofs.holdings.Holdings.take_frames.Goals as goal

pub loop-init : goal.loop-init
loop-init g c = record {
  takes = Takes-none g.P.PeerLane.Moved c.args.place c.args.self.now c.args.journal.now.lines c.requires.rests;
  entry_room = omega arith;
  byte_room = omega arith;
}

pub take_frame-requires-clause-within : goal.take_frame-requires-clause-within
take_frame-requires-clause-within g c =
    let d = c.loop.invariant.takes.doing in
    let long = same-length c.args.self.now.parts c.loop.self.parts (did-numbers g.P.PeerLane.Moved d.steps c.args.self.now c.loop.self d.did) in
    omega (arith, long, c.requires.within)

pub take_frame-requires-clause-shown : goal.take_frame-requires-clause-shown
take_frame-requires-clause-shown g c =
    let t = c.loop.invariant.takes in
    let p = c.args.self.now.parts in
    let x = peer_at p c.args.place in
    let ends = doing-ends g.P.PeerLane.Moved (takes_named (number_in t.numbers) x.number t.takes) (taking (state_of p) x.number t.numbers t.takes) c.args.self.now c.loop.self c.args.place c.requires.within t.doing in
    let left = ap (λ (l : LaneSeen). l.shown) ends ∙ taken-shown (state_of p) x.number t.numbers t.takes x.ends (t.each ∙ sym t.many) in
    omega (arith, left, t.many, c.requires.shown, c.loop-test.true)

pub loop-preserved : goal.loop-preserved
loop-preserved g c =
    let i = c.loop.invariant in
    let e = c.take_frame.ensures in
    record {
      takes = Takes-more g.P.PeerLane.Moved g.met.P.PeerLane.both c.args.place c.loop.counter c.args.self.now c.loop.self c.take_frame.new.self c.args.journal.now.lines c.loop.journal.lines c.take_frame.new.journal.lines i.takes e.takes;
      entry_room = omega (arith, i.entry_room, e.entry_room);
      byte_room = omega (arith, i.byte_room, e.byte_room);
    }
