use Rattle.std.proofs.Common.{◌<◌, ◌≤◌, arith, length}
use Rattle.domain_parts.proofs.Turning.{did-numbers, same-length}
use Rattle.domain_parts.proofs.VisitedAll.{so-far-all, so-far-more, so-far-none}
use Rattle.domain_parts.proofs.holdings.Holdings.visit_peers.Goals as goal

pub loop-place-init : goal.loop-place-init
loop-place-init g c = record {
  so_far = so-far-none g.P.PeerLane.Moved c.args.self.now c.args.journal.now.lines c.count_peers-place-end.ensures.rests;
  entry_room = omega arith;
  byte_room = omega arith;
}

pub visit_peer-begun-requires-clause-within : goal.visit_peer-begun-requires-clause-within
visit_peer-begun-requires-clause-within g c =
    let s = c.loop-place.invariant.so_far in
    let long = same-length c.args.self.now.parts c.loop-place.self.parts (did-numbers g.P.PeerLane.Moved s.steps c.args.self.now c.loop-place.self s.did) in
    omega (arith, long, c.count_peers-place-end.ensures.count)

pub visit_peer-begun-requires-clause-entry_room : goal.visit_peer-begun-requires-clause-entry_room
visit_peer-begun-requires-clause-entry_room g c =
    let i = c.loop-place.invariant in
    omega (arith, c.count_peers-place-end.ensures.few, i.entry_room, c.requires.entry_room)

pub visit_peer-begun-requires-clause-byte_room : goal.visit_peer-begun-requires-clause-byte_room
visit_peer-begun-requires-clause-byte_room g c =
    let i = c.loop-place.invariant in
    omega (arith, c.count_peers-place-end.ensures.few, i.byte_room, c.requires.byte_room)

pub loop-place-preserved : goal.loop-place-preserved
loop-place-preserved g c =
    let l = c.loop-place in
    let e = c.visit_peer-begun.ensures in
    let s = l.invariant.so_far in
    let long = same-length c.args.self.now.parts l.self.parts (did-numbers g.P.PeerLane.Moved s.steps c.args.self.now l.self s.did) in
    let within : l.place < length l.self.parts.peers = omega (arith, long, c.count_peers-place-end.ensures.count) in
    record {
      so_far = so-far-more g.P.PeerLane.Moved g.met.P.PeerLane.none g.met.P.PeerLane.both c.args.self.now l.self c.visit_peer-begun.new.self c.args.journal.now.lines l.journal.lines c.visit_peer-begun.new.journal.lines l.place l.begun c.visit_peer-begun.result s within e.visits;
      entry_room = omega (arith, l.invariant.entry_room, e.entry_room);
      byte_room = omega (arith, l.invariant.byte_room, e.byte_room);
    }

pub returns-clause-visits : goal.returns-clause-visits
returns-clause-visits g c =
    let l = c.loop-place in
    let le : length c.args.self.now.parts.peers ≤ l.place = omega (arith, c.count_peers-place-end.ensures.count) in
    so-far-all g.P.PeerLane.Moved g.met.P.PeerLane.none g.met.P.PeerLane.both c.args.self.now l.self c.args.journal.now.lines l.journal.lines l.place l.begun c.count_peers-place-end.ensures.sound l.invariant.so_far le

pub returns-clause-rests : goal.returns-clause-rests
returns-clause-rests g c = c.loop-place.invariant.so_far.rests

pub returns-clause-entry_room : goal.returns-clause-entry_room
returns-clause-entry_room g c = omega (arith, c.count_peers-place-end.ensures.few, c.loop-place.invariant.entry_room)

pub returns-clause-byte_room : goal.returns-clause-byte_room
returns-clause-byte_room g c = omega (arith, c.count_peers-place-end.ensures.few, c.loop-place.invariant.byte_room)
