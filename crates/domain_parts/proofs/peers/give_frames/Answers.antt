use Rattle.std.proofs.Common.{◌≡◌, ◌∙◌, ℕ, List, length, IfSome, Option, None, Some, ap, arith, refl, subst, sym, true}
use Rattle.std.specs.Prelude.{IsNone, IsSome, is_some, option_map}
use Rattle.mc_base.specs.Limits.{buffer_size}
use Rattle.mc_base.specs.Stored.{Stored}
use Rattle.buffer_book.specs.Book.{Item}
use Rattle.domain_parts.specs.AllMoved.{giving}
use Rattle.domain_parts.specs.InBook.{frames_at}
use Rattle.domain_parts.specs.LaneSeen.{after_moves}
use Rattle.domain_parts.specs.Steps.{without_frames}
use Rattle.domain_parts.proofs.Giving.{all-given_back, frames-many, giving-next, giving-none, next-out, next-there}
use Rattle.domain_parts.proofs.peers.give_frames.Given.{Over}
use Rattle.domain_parts.proofs.peers.give_frames.Goals as goal

pub loop-init : goal.loop-init
loop-init g c = giving-none g.P.PeerLane.Moved g.P.PeerLane.seen c.args.slot None g.met.P.PeerLane.none c.args.book.now c.args.ends.now c.requires.queued c.requires.out

there-is : (o : Option Stored) (p : Option Item) (i : Item) → p ≡ Some i → (IsNone o → IsNone p) → is_some o ≡ true
there-is None p i is none = let not = subst IsNone is (none refl) in absurd cc
there-is (Some x) p i is none = refl

pub unwrap-buffer-requires : goal.unwrap-buffer-requires
unwrap-buffer-requires g c =
    let next = next-there g.P.PeerLane.Moved g.P.PeerLane.seen c.args.slot None c.args.book.now c.loop.book c.loop.counter c.args.ends.now c.loop.ends c.loop.invariant (omega (arith, frames-many g.P.PeerLane.Moved g.P.PeerLane.seen c.args.slot None c.args.book.now c.pieces-end.result c.requires.queued c.pieces-end.ensures, c.loop-test.true)) in
    there-is c.withdraw_next.result _ _ next c.withdraw_next.ensures.none.0

pub give_back-requires-clause-out : goal.give_back-requires-clause-out
give_back-requires-clause-out g c =
    next-out g.P.PeerLane.Moved g.P.PeerLane.seen c.args.slot None c.args.book.now c.loop.book c.loop.counter c.args.ends.now c.loop.ends c.loop.invariant (omega (arith, frames-many g.P.PeerLane.Moved g.P.PeerLane.seen c.args.slot None c.args.book.now c.pieces-end.result c.requires.queued c.pieces-end.ensures, c.loop-test.true)) c.unwrap-buffer.result.number
    (sym (ap (option_map (λ (r : Stored). r.number)) c.unwrap-buffer.ensures) ∙ c.withdraw_next.ensures.number)

pub give_back-requires-clause-wide : goal.give_back-requires-clause-wide
give_back-requires-clause-wide g c = subst (λ (o : Option Stored). IfSome o (λ (b : Stored). length b.bytes ≡ buffer_size)) c.unwrap-buffer.ensures c.withdraw_next.ensures.wide

pub loop-preserved : goal.loop-preserved
loop-preserved g c =
    let many = frames-many g.P.PeerLane.Moved g.P.PeerLane.seen c.args.slot None c.args.book.now c.pieces-end.result c.requires.queued c.pieces-end.ensures in
    giving-next g.P.PeerLane.Moved g.P.PeerLane.seen c.args.slot None c.args.book.now c.loop.book c.loop.counter c.args.ends.now c.loop.ends c.loop.invariant (omega (arith, many, c.loop-test.true)) g.met.P.PeerLane.both c.unwrap-buffer.result.number
    (sym (ap (option_map (λ (r : Stored). r.number)) c.unwrap-buffer.ensures) ∙ c.withdraw_next.ensures.number) c.withdraw_next.new.self (c.withdraw_next.ensures.book (subst IsSome (sym c.unwrap-buffer.ensures) refl)) c.give_back.new.self c.give_back.ensures.moved c.give_back.ensures.seen

given-all : (g : Over) (c : goal.After-loop g) → c.loop.invariant.given ≡ frames_at c.args.book.now c.args.slot
given-all g c =
    let many = frames-many g.P.PeerLane.Moved g.P.PeerLane.seen c.args.slot None c.args.book.now c.pieces-end.result c.requires.queued c.pieces-end.ensures in
    all-given_back g.P.PeerLane.Moved g.P.PeerLane.seen c.args.slot None c.args.book.now c.loop.book c.loop.counter c.args.ends.now c.loop.ends c.loop.invariant (omega (arith, many, c.loop-test.false))

pub returns-clause-book : goal.returns-clause-book
returns-clause-book g c = c.loop.invariant.book ∙ ap (without_frames c.args.book.now c.args.slot None) (given-all g c)

pub returns-clause-moved : goal.returns-clause-moved
returns-clause-moved g c = subst (λ (fs : List ℕ). g.P.PeerLane.Moved c.args.ends.now (giving fs) c.loop.ends) (given-all g c) c.loop.invariant.moved

pub returns-clause-seen : goal.returns-clause-seen
returns-clause-seen g c = c.loop.invariant.seen ∙ ap (λ (fs : List ℕ). after_moves (giving fs) (g.P.PeerLane.seen c.args.ends.now)) (given-all g c)
