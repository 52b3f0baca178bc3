use Rattle.std.proofs.Common.{◌+◌, ◌≤◌, ◌∙◌, ◌∷◌, [], length, sym, subst, ap}
use Rattle.std.specs.Prelude.{Contains}
use Rattle.shared_words.specs.Entry.{Entry}
use Rattle.split_ring.specs.Ends.{End, IsSound}
use Rattle.lane_end.specs.Numbers.{AreApart}
use Rattle.lane_end.specs.Opened.{given_length}
use Rattle.lane_end.specs.ReceiveMoves.{Gave}
use Rattle.lane_end.specs.ReceiverContract.{without}
use Rattle.lane_end.specs.RingReceiver.{RingReceiver, receiver_size, out_at, RingReceives}
use Rattle.lane_end.specs.KeptRing.{receiver_with}
use Rattle.lane_end.proofs.ReceiverLemmas.{give-keeps, give-moves, gave, out-apart, out-room, out-gives, out-held, ring_width}
use Rattle.lane_end.proofs.ring_recv.RingRecvRecvEnd.give_back.Goals as goal

pub write_back-requires-clause-holds : goal.write_back-requires-clause-holds
write_back-requires-clause-holds g c =
    let i = c.self.inside in let r = receiver_with g.H.RingHalf.role (g.H.RingHalf.end i.half) i.shown in (
      out-held i.on.now r c.self.invariant c.args.buffer.number (subst (λ (q : RingReceiver). Contains (out_at q) c.args.buffer.number) (sym c.self.view_is) c.requires.out),
      c.requires.wide ∙ sym (ring_width i.on.now r c.self.invariant),
    )

pub returns-clause-out : goal.returns-clause-out
returns-clause-out g c =
    let i = c.self.inside in let role = g.H.RingHalf.role in let e : Entry = (c.args.buffer, given_length role (g.H.RingHalf.end i.half).ring) in
    let r = receiver_with role (g.H.RingHalf.end i.half) i.shown in
    ap (λ (h : End). out_at (receiver_with role h i.shown)) c.write_back.ensures.written
    ∙ (out-gives i.on.now r c.self.invariant e ∙ ap (λ (q : RingReceiver). without c.args.buffer.number (out_at q)) c.self.view_is)

pub returns-clause-apart : goal.returns-clause-apart
returns-clause-apart g c =
    let i = c.self.inside in let role = g.H.RingHalf.role in let e : Entry = (c.args.buffer, given_length role (g.H.RingHalf.end i.half).ring) in let is = c.write_back.ensures.written in
    let r = receiver_with role (g.H.RingHalf.end i.half) i.shown in
    let k = give-keeps i.on.now r c.self.invariant e (subst (IsSound role) is c.write_back.ensures.sound) in
    subst (λ (h : End). AreApart (receiver_size (receiver_with role h i.shown)) (out_at (receiver_with role h i.shown))) (sym is) (out-apart i.on.now (gave e r) k)

pub returns-clause-room : goal.returns-clause-room
returns-clause-room g c =
    let i = c.self.inside in let role = g.H.RingHalf.role in let e : Entry = (c.args.buffer, given_length role (g.H.RingHalf.end i.half).ring) in let is = c.write_back.ensures.written in
    let r = receiver_with role (g.H.RingHalf.end i.half) i.shown in
    let k = give-keeps i.on.now r c.self.invariant e (subst (IsSound role) is c.write_back.ensures.sound) in
    subst (λ (h : End). length (out_at (receiver_with role h i.shown)) + i.shown ≤ receiver_size (receiver_with role h i.shown)) (sym is) (out-room i.on.now (gave e r) k)

pub returns-clause-moved : goal.returns-clause-moved
returns-clause-moved g c =
    let i = c.self.inside in let role = g.H.RingHalf.role in let is = c.write_back.ensures.written in
    let r = receiver_with role (g.H.RingHalf.end i.half) i.shown in
    let out = subst (λ (q : RingReceiver). Contains (out_at q) c.args.buffer.number) (sym c.self.view_is) c.requires.out in
    subst (λ (x : RingReceiver × RingReceiver). RingReceives x.0 (Gave c.args.buffer.number ∷ []) x.1) (λ j. (c.self.view_is j, receiver_with role (sym is j) i.shown))
    (give-moves i.on.now r c.self.invariant c.args.buffer out)
