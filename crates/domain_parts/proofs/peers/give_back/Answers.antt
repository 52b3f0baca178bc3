use Rattle.std.proofs.Common.{◌≡◌, ◌∙◌, sym, ap, subst, slice_index_or, ℕ, List, Option, Some, refl}
use Rattle.std.specs.Prelude.{slice_get}
use Rattle.std.proofs.lemmas.Option.{get_or_from_slice_get}
use Rattle.domain_parts.specs.GivingBack.{AreOut}
use Rattle.domain_parts.specs.InBook.{frames_at}
use Rattle.domain_parts.proofs.peers.give_back.Goals as goal

-- the place that is found is that of the peer at which the buffers are out
found : {X : Type 0} (xs : List X) (x : X) (i j : ℕ) (o o' : Option ℕ) → o ≡ Some i → o ≡ o' → o' ≡ Some j → slice_get xs j ≡ Some x → slice_get xs i ≡ Some x
found xs x i j o o' at is first there = let same : i ≡ j = cc in ap (slice_get xs) same ∙ there

pub give_frames-requires-clause-out : goal.give_frames-requires-clause-out
give_frames-requires-clause-out g c =
    let ps = c.args.peers.now in
    let there = found ps c.requires.out.peer c.in-Some.place c.requires.out.place _ _ c.in-Some.is c.place_of.ensures.place c.requires.out.first c.requires.out.there in
    let read = get_or_from_slice_get ps c.in-Some.place c.requires.out.peer c.index-peers-place.result there in
    subst (λ p. AreOut (g.P.PeerLane.seen p.ends).out (frames_at c.args.book.now c.args.slot)) (sym read) c.requires.out.out

pub returns-in-Some-clause-gives : goal.returns-in-Some-clause-gives
returns-in-Some-clause-gives g c =
    let ps = c.args.peers.now in
    let there = found ps c.requires.out.peer c.in-Some.place c.requires.out.place _ _ c.in-Some.is c.place_of.ensures.place c.requires.out.first c.requires.out.there in
    let read = get_or_from_slice_get ps c.in-Some.place c.requires.out.peer c.index-peers-place.result there in
    record {
      place = c.in-Some.place;
      peer = slice_index_or ps c.in-Some.place c.index-peers-place.result;
      ends = c.give_frames.new.ends;
      there = there ∙ ap (λ p. Some p) (sym read);
      is = ap (λ p. p.number) read ∙ c.requires.out.is;
      after = refl;
      moved = c.give_frames.ensures.moved;
      seen = c.give_frames.ensures.seen;
    }

pub returns-in_default-clause-book : goal.returns-in_default-clause-book
returns-in_default-clause-book g c = absurd (c.in_default.not-Some c.requires.out.place (c.place_of.ensures.place ∙ c.requires.out.first))

pub returns-in_default-clause-gives : goal.returns-in_default-clause-gives
returns-in_default-clause-gives g c = absurd (c.in_default.not-Some c.requires.out.place (c.place_of.ensures.place ∙ c.requires.out.first))
