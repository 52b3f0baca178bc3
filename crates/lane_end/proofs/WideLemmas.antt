-- Buffers stay as long as all buffers of their ring.
use Rattle.std.proofs.Common.{◌≡◌, ℕ, List, [], ◌∷◌, ◌++◌, length, take, drop, sym, ap, ◌∙◌, subst, arith, length-append, length-drop, length-take-le}
use Rattle.std.specs.List.{All}
use Rattle.std.proofs.lemmas.List.{length-replicate}
use Rattle.std.proofs.lemmas.List.Elements.{All-map, All-push}
use Rattle.mc_base.specs.Stored.{Stored}
use Rattle.shared_words.specs.Slots.{numbers_from}
use Rattle.shared_words.specs.Start.{new_buffer}
use Rattle.shared_words.specs.Shown.{RingId, size_of}
use Rattle.split_ring.specs.Ends.{End, takes, HasWidth}
use Rattle.lane_end.specs.RingOpening.{new_buffers}

-- the same buffers at another state of the half
pub still_wide : (old new : End) (bs : List Stored) → new.ring ≡ old.ring → All (HasWidth old) bs → All (HasWidth new) bs
still_wide old new bs same wide = subst (λ (r : RingId). All (λ (b : Stored). length b.bytes ≡ r.width) bs) (sym same) wide

-- one more was taken
pub wide_taken : (old new : End) (b : Stored) (len : ℕ) (bs more : List Stored) → new ≡ takes (b, len) old → All (HasWidth old) bs → HasWidth new b → more ≡ bs ++ b ∷ [] → All (HasWidth new) more
wide_taken old new b len bs more is wide one added = subst (All (HasWidth new)) (sym added) (All-push (HasWidth new) bs b (still_wide old new bs (ap (λ (h : End). h.ring) is) wide) one)

-- those of a new ring
pub new_wide : (half : End) (ring : RingId) (bs : List Stored) → half.ring ≡ ring → bs ≡ new_buffers ring → All (HasWidth half) bs
new_wide half ring bs same is = subst (All (HasWidth half)) (sym is)
    (All-map (HasWidth half) (new_buffer ring.width) (numbers_from 0 (size_of ring)) (λ k d h. length-replicate ring.width 0 ∙ ap (λ (r : RingId). r.width) (sym same)))

-- a frame over its first bytes leaves a buffer as long as it was
pub length-written : (out bytes : List ℕ) → length (take (length bytes) (out ++ drop (length out) bytes)) ≡ length bytes
length-written out bytes = length-take-le (length bytes) (out ++ drop (length out) bytes) (let a = length-append out (drop (length out) bytes) in let d = length-drop (length out) bytes in omega (arith, a, d))
