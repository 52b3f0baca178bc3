use Rattle.std.proofs.Common.{◌≡◌, ◌∙◌, ℕ, List, [], Option, None, Some, ap, arith, length, refl, subst, true}
use Rattle.std.specs.Prelude.{IfOk, IsErr, IsNone, OnOk, Ok, Err, Result, is_ok, is_some, option_map}
use Rattle.mc_base.specs.Limits.{buffer_size}
use Rattle.buffer_book.specs.Book.{Book, Item, NoneAside, count_of, lent_as, slot_of, with_taken}
use Rattle.buffer_book.proofs.NoneAside.{lent-plain}
use Rattle.domain_parts.specs.AllMoved.{giving}
use Rattle.domain_parts.specs.InBook.{frames_at}
use Rattle.domain_parts.specs.InPlaces.{IsLentAs, lent_item}
use Rattle.mc_base.specs.declared.request.PacketId.{PacketId}
use Rattle.domain_parts.specs.LaneSeen.{after_moves}
use Rattle.domain_parts.specs.Steps.{without_frames}
use Rattle.domain_parts.proofs.Giving.{all-given_back, frames-many, giving-next, giving-none, next-out, next-there}
use Rattle.domain_parts.proofs.peers.give_lent_frames.Given.{Over}
use Rattle.domain_parts.proofs.peers.give_lent_frames.Goals as goal

pub loop-init : goal.loop-init
loop-init g c = giving-none g.P.PeerLane.Moved g.P.PeerLane.seen (slot_of c.args.id) (Some c.args.id.serial) g.met.P.PeerLane.none c.args.book.now c.args.ends.now c.requires.lent c.requires.out

ok-is : {A E : Type 0} (o : Result A E) (p : Option Item) (i : Item) → p ≡ Some i → (IsErr o → IsNone p) → is_ok o ≡ true
ok-is (Err e) p i is none = let not = subst IsNone is (none refl) in absurd cc
ok-is (Ok x) p i is none = refl

some-is : (o : Option Item) → is_some o ≡ true → (i : Item) × (o ≡ Some i)
some-is None is = absurd cc
some-is (Some i) is = (i, refl)

pub unwrap-end-requires : goal.unwrap-end-requires
unwrap-end-requires g c =
    let plain = lent-plain c.args.book.now c.args.id c.requires.none_aside in
    let i = some-is _ c.requires.lent in
    ok-is c.lent_pieces.result (lent_as c.args.book.now c.args.id) i.0 (plain ∙ i.1) c.lent_pieces.ensures.refused.0

-- how many there are
many : {E : Type 0} (b : Book) (id : PacketId) (o : Result ℕ E) (n : ℕ) → NoneAside b → IsLentAs b id → o ≡ Ok n → IfOk o (λ m. Some m ≡ option_map count_of (lent_as b id)) → n ≡ length (frames_at b (slot_of id))
many b id o n none lent is told =
    let count : Some n ≡ option_map count_of (lent_as b id) = subst (λ r. IfOk r (λ m. Some m ≡ option_map count_of (lent_as b id))) is told in
    by-state n (count ∙ ap (option_map count_of) (lent-plain b id none))
  where
    by-state : (n : ℕ) → Some n ≡ option_map count_of (lent_item b id) → n ≡ length (frames_at b (slot_of id))
    by-state n count = frames-many {L = ℕ} (λ a ms l. Unit {0}) (λ l. record { size_to = 0; size_from = 0; free = 0; shown = 0; out = [] }) (slot_of id) (Some id.serial) b n lent count

pub unwrap-buffer-requires : goal.unwrap-buffer-requires
unwrap-buffer-requires g c =
    let next = next-there g.P.PeerLane.Moved g.P.PeerLane.seen (slot_of c.args.id) (Some c.args.id.serial) c.args.book.now c.loop.book c.loop.counter c.args.ends.now c.loop.ends c.loop.invariant (omega (arith, many c.args.book.now c.args.id c.lent_pieces.result c.unwrap-end.result c.requires.none_aside c.requires.lent c.unwrap-end.ensures c.lent_pieces.ensures.count, c.loop-test.true)) in
    ok-is c.release_next.result _ _ (lent-plain c.loop.book c.args.id (c.loop.invariant.none_aside c.requires.none_aside) ∙ next) c.release_next.ensures.refused.0

pub give_back-requires-clause-out : goal.give_back-requires-clause-out
give_back-requires-clause-out g c =
    let plain = lent-plain c.loop.book c.args.id (c.loop.invariant.none_aside c.requires.none_aside) in
    let told = subst (λ o. IfOk o (λ r. Some r.0.number ≡ option_map (λ (i : Item). i.first) (lent_as c.loop.book c.args.id))) c.unwrap-buffer.ensures c.release_next.ensures.number in
    next-out g.P.PeerLane.Moved g.P.PeerLane.seen (slot_of c.args.id) (Some c.args.id.serial) c.args.book.now c.loop.book c.loop.counter c.args.ends.now c.loop.ends c.loop.invariant (omega (arith, many c.args.book.now c.args.id c.lent_pieces.result c.unwrap-end.result c.requires.none_aside c.requires.lent c.unwrap-end.ensures c.lent_pieces.ensures.count, c.loop-test.true)) c.unwrap-buffer.result.0.number
    (told ∙ ap (option_map (λ (i : Item). i.first)) plain)

pub give_back-requires-clause-wide : goal.give_back-requires-clause-wide
give_back-requires-clause-wide g c = subst (λ o. IfOk o (λ r. length r.0.bytes ≡ buffer_size)) c.unwrap-buffer.ensures c.release_next.ensures.wide

pub loop-preserved : goal.loop-preserved
loop-preserved g c =
    let plain = lent-plain c.loop.book c.args.id (c.loop.invariant.none_aside c.requires.none_aside) in
    let told = subst (λ o. IfOk o (λ r. Some r.0.number ≡ option_map (λ (i : Item). i.first) (lent_as c.loop.book c.args.id))) c.unwrap-buffer.ensures c.release_next.ensures.number in
    let book = subst (λ o. OnOk o (c.release_next.new.self ≡ with_taken c.loop.book (slot_of c.args.id) (Some c.args.id.serial))) c.unwrap-buffer.ensures c.release_next.ensures.book in
    giving-next g.P.PeerLane.Moved g.P.PeerLane.seen (slot_of c.args.id) (Some c.args.id.serial) c.args.book.now c.loop.book c.loop.counter c.args.ends.now c.loop.ends c.loop.invariant (omega (arith, many c.args.book.now c.args.id c.lent_pieces.result c.unwrap-end.result c.requires.none_aside c.requires.lent c.unwrap-end.ensures c.lent_pieces.ensures.count, c.loop-test.true)) g.met.P.PeerLane.both c.unwrap-buffer.result.0.number
    (told ∙ ap (option_map (λ (i : Item). i.first)) plain) c.release_next.new.self book c.give_back.new.self c.give_back.ensures.moved c.give_back.ensures.seen

given-all : (g : Over) (c : goal.After-loop g) → c.loop.invariant.given ≡ frames_at c.args.book.now (slot_of c.args.id)
given-all g c = all-given_back g.P.PeerLane.Moved g.P.PeerLane.seen (slot_of c.args.id) (Some c.args.id.serial) c.args.book.now c.loop.book c.loop.counter c.args.ends.now c.loop.ends c.loop.invariant (omega (arith, many c.args.book.now c.args.id c.lent_pieces.result c.unwrap-end.result c.requires.none_aside c.requires.lent c.unwrap-end.ensures c.lent_pieces.ensures.count, c.loop-test.false))

pub returns-clause-book : goal.returns-clause-book
returns-clause-book g c = c.loop.invariant.book ∙ ap (without_frames c.args.book.now (slot_of c.args.id) (Some c.args.id.serial)) (given-all g c)

pub returns-clause-moved : goal.returns-clause-moved
returns-clause-moved g c = subst (λ (fs : List ℕ). g.P.PeerLane.Moved c.args.ends.now (giving fs) c.loop.ends) (given-all g c) c.loop.invariant.moved

pub returns-clause-seen : goal.returns-clause-seen
returns-clause-seen g c = c.loop.invariant.seen ∙ ap (λ (fs : List ℕ). after_moves (giving fs) (g.P.PeerLane.seen c.args.ends.now)) (given-all g c)
