use Rattle.std.proofs.Common.{◌≡◌, ℕ, ◌+◌, ◌<◌, List, [], ◌∷◌, ◌++◌, length, take, get_or, sym, ap, ◌∙◌, append-nil, append_assoc}
use Rattle.std.specs.List.{flat_map}
use Rattle.std.proofs.lemmas.List.Concat.{flat_map-append}
use Rattle.std.proofs.lemmas.Option.{slice_get-get_or}
use Rattle.board_numbers.proofs.CountLemmas.{take-more}
use Rattle.ring_numbers.specs.RingTexts.{ring_text}
use Rattle.report_totals.specs.ReadJournals.{image_told}
use Rattle.report_totals.proofs.rings.lines.text_of_rings.Goals as goal

-- of the first of many two texts each, and of the next
two-more : {A : Type 0} (f g : A → List ℕ) (xs : List A) (i : ℕ) (d : A) → i < length xs → (old one two : List ℕ) → old ≡ flat_map (λ x. f x ++ g x) (take i xs) → one ≡ old ++ f (get_or xs i d) → two ≡ one ++ g (get_or xs i d) → two ≡ flat_map (λ x. f x ++ g x) (take (i + 1) xs)
two-more {A} f g xs i d within old one two before first second =
    let x : A = get_or xs i d in
    second
    ∙ ap (λ (t : List ℕ). t ++ g x) (first ∙ ap (λ (t : List ℕ). t ++ f x) before)
    ∙ append_assoc (flat_map (λ y. f y ++ g y) (take i xs)) (f x) (g x)
    ∙ sym (ap (flat_map (λ y. f y ++ g y)) (take-more xs i x (sym (slice_get-get_or xs i d within))) ∙ flat_map-append (λ y. f y ++ g y) (take i xs) (x ∷ []) ∙ ap (λ (t : List ℕ). flat_map (λ y. f y ++ g y) (take i xs) ++ t) (append-nil (f x ++ g x)))

pub loop-link-preserved : goal.loop-link-preserved
loop-link-preserved c = λ s js reads.
    two-more (λ k. ring_text k 0 (image_told s js k 0)) (λ k. ring_text k 1 (image_told s js k 1)) c.args.links.now c.loop-link.link-index _ c.loop-link-test.true c.loop-link.sink.text.items c.add_ring.new.sink.text.items c.add_ring-in-loop-link.new.sink.text.items
    (c.loop-link.invariant s js reads) (c.in_ok-add_ring.ensures s js reads) (c.in_ok-add_ring-2.ensures s js reads)
