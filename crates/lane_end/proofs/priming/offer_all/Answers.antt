use Rattle.std.proofs.Common.{◌≡◌, ◌∙◌, ℕ, length, List, [], ◌∷◌, ◌++◌, sym, ap, Option, Some, append_assoc}
use Rattle.std.specs.Option.{option_to_list}
use Rattle.mc_base.specs.Stored.{Stored}
use Rattle.shared_words.specs.Shown.{RingId}
use Rattle.shared_words.specs.declared.view.Role.TheVariants.{Driver}
use Rattle.split_ring.specs.Ends.{End, writes}
use Rattle.split_ring.proofs.HeldLemmas.{first_held}
use Rattle.lane_end.proofs.PrimingLemmas.{offers-more}
use Rattle.lane_end.proofs.priming.offer_all.Goals as goal

front : (xs rest : List Stored) (o : Option Stored) (x : Stored) → xs ≡ option_to_list o ++ rest → o ≡ Some x → xs ≡ x ∷ rest
front xs rest o x is some = is ∙ ap (λ (y : Option Stored). option_to_list y ++ rest) some

pub loop-buffer-preserved : goal.loop-buffer-preserved
loop-buffer-preserved c =
    let i = c.loop-buffer.invariant in let done = i.offered.0 in let left = c.loop-buffer.buffers.items in let rest = c.pop_front.new.self.items in let b = c.in-Some.buffer in
    let f = front left rest c.pop_front.result b c.pop_front.ensures.items c.in-Some.is in
    let same : c.loop-buffer.driver.ring ≡ c.args.on.now.ring = ap (λ (e : End). e.ring) i.offered.2.driver ∙ c.requires.ring in
    let whole_length : c.length.result ≡ length b.bytes = c.length.ensures.width ∙ (ap (λ (r : RingId). r.width) (sym same) ∙ sym (first_held Driver c.loop-buffer.driver left rest b f i.offered.2.held).1) in record {
      offered = (
        done ++ b ∷ [],
        i.offered.1 ∙ (ap (λ (l : List Stored). done ++ l) f ∙ sym (append_assoc done (b ∷ []) rest)),
        offers-more c.args.driver.now c.loop-buffer.driver c.offer.new.self done left rest b i.offered.2 f (c.offer.ensures.offered ∙ ap (λ (n : ℕ). writes (b, n) c.loop-buffer.driver) whole_length) c.offer.ensures.sound,
      );
      room = c.pop_front.ensures.capacity ∙ i.room;
    }
