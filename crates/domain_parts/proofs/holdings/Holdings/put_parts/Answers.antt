use Rattle.std.proofs.Common.{◌≡◌, ◌∙◌, ◌+◌, ◌<◌, ◌≤◌, min, ap, sym, subst, arith, length}
use Rattle.mc_base.specs.Frame.{made}
use Rattle.mc_base.specs.Letter.{FitsFrame, Saying, saying_text}
use Rattle.mc_base.specs.Limits.{piece_size}
use Rattle.domain_parts.specs.Pieces.{carrier_in}
use Rattle.domain_parts.proofs.Cutting.{part-fits}
use Rattle.domain_parts.proofs.PutParts.{all-did, all-told, bytes-left, none-put, one-put}
use Rattle.domain_parts.proofs.holdings.Holdings.put_parts.Goals as goal

pub loop-init : goal.loop-init
loop-init g c = record {
  parts = none-put g.P.PeerLane.Moved c.args.item.now c.args.cut c.args.count c.args.self.now c.args.journal.now.lines c.requires.needs c.requires.free;
  entry_room = omega arith;
  byte_room = omega arith;
}

pub put_letter-requires-clause-lawful : goal.put_letter-requires-clause-lawful
put_letter-requires-clause-lawful g c =
    let o = c.args.item.now in
    let part = c.split_at.result.0.now in
    let rest = c.loop.rest.now in
    let so_far = c.loop.invariant.parts in
    let left = bytes-left g.P.PeerLane.Moved o c.args.cut c.args.count c.args.self.now c.args.journal.now.lines c.loop.self c.loop.journal.lines c.loop.counter c.loop.offset rest so_far c.loop-test.true in
    let place = so_far.place in
    let long : length part ≡ min c.args.cut (length rest) = c.split_at.ensures.front_len ∙ c.min.ensures in
    let cuts = c.requires.cuts in
    let most = c.requires.fits in
    let some : 0 < length part = omega (arith, long, left, cuts) in
    let fits : length part ≤ piece_size = omega (arith, long, most) in
    let within : c.loop.offset + length part ≤ length o.bytes.now = omega (arith, long, place) in
    subst FitsFrame (sym c.part-letter.ensures) (part-fits (carrier_in o.carrier) (length o.bytes.now) c.loop.offset part c.requires.carrier some fits within c.requires.short)

pub loop-preserved : goal.loop-preserved
loop-preserved g c =
    let o = c.args.item.now in
    let rest = c.loop.rest.now in
    let entries = c.loop.invariant.entry_room in
    let bytes = c.loop.invariant.byte_room in
    record {
      parts = one-put g.P.PeerLane.Moved o c.args.cut c.args.count c.args.self.now c.args.journal.now.lines c.loop.self c.loop.journal.lines c.loop.counter c.loop.offset rest c.loop.invariant.parts c.loop-test.true
          g.met.P.PeerLane.both c.min.result c.split_at.result.0.now c.split_at.result.1.now _ c.min.ensures c.split_at.ensures.front c.split_at.ensures.back
          (ap (λ (s : Saying). made o.source o.destination (saying_text s)) c.part-letter.ensures)
          c.put_letter.new.self c.put_letter.new.journal.lines c.put_letter.ensures.did c.put_letter.ensures.told;
      entry_room = let room = c.put_letter.ensures.entry_room in omega (arith, entries, room);
      byte_room = let room = c.put_letter.ensures.byte_room in omega (arith, bytes, room);
    }

pub returns-clause-did : goal.returns-clause-did
returns-clause-did g c = all-did g.P.PeerLane.Moved c.args.item.now c.args.cut c.args.count c.args.self.now c.args.journal.now.lines c.loop.self c.loop.journal.lines c.loop.counter c.loop.offset c.loop.rest.now c.loop.invariant.parts c.loop-test.false c.requires.some

pub returns-clause-told : goal.returns-clause-told
returns-clause-told g c = all-told g.P.PeerLane.Moved c.args.item.now c.args.cut c.args.count c.args.self.now c.args.journal.now.lines c.loop.self c.loop.journal.lines c.loop.counter c.loop.offset c.loop.rest.now c.loop.invariant.parts c.loop-test.false
