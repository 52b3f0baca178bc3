-- The content of an item, copied frame by frame.
use Rattle.std.proofs.Common.{◌≡◌, ℕ, zero, suc, ◌+◌, ◌-◌, ◌<◌, ◌≤◌, Bool, cond, List, [], ◌∷◌, ◌++◌, length, map, take, drop, Option, None, Some, refl, sym, ap, ◌∙◌, arith, length-append, add-one, ◌⊎◌, inl, inr}
use Rattle.std.specs.Prelude.{min, option_and_then, option_map, option_to_list, slice_get}
use Rattle.std.proofs.lemmas.List.{append-nil, append_assoc, length-take, length-drop, take-append-drop, take-append-le, take_all, drop-append-le, drop-drop}
use Rattle.std.proofs.Math.Seq.{take-append-add, drop-append-add}
use Rattle.std.proofs.lemmas.Bool.{cases_lt}
use borrow.Rule.Slice.PartMut.{mid_of, put_mid}
use Rattle.mc_base.specs.declared.request.Slot.{Slot}
use Rattle.buffer_book.specs.Book.{Book, IsQueued, Item, Kept, content, frame_at, frames_of, if_state, item_at, kept_at, queued_at}
use Rattle.domain_parts.specs.InBook.{content_in, frames_at, frames_in, joined_content, pieces_of, slot_at, whole_at, whole_of}
use Rattle.domain_parts.proofs.Books.{frames-some}
use Rattle.domain_parts.proofs.Placed.{queued-same}

-- the contents of frames of a peer, one after the other
abbrev pub contents_of_frames : Book → ℕ → List ℕ → List ℕ
contents_of_frames b peer fs = joined_content (map content (pieces_of b peer fs))

contents-cons : (b : Book) (peer f : ℕ) (fs : List ℕ) → contents_of_frames b peer (f ∷ fs) ≡ joined_content (map content (option_to_list (kept_at b (slot_at peer f)))) ++ contents_of_frames b peer fs
contents-cons b peer f fs = go (kept_at b (slot_at peer f))
  where
    go : (o : Option Kept) → joined_content (map content (option_to_list o ++ pieces_of b peer fs)) ≡ joined_content (map content (option_to_list o)) ++ contents_of_frames b peer fs
    go None = refl
    go (Some k) = ap (λ (xs : List ℕ). xs ++ contents_of_frames b peer fs) (sym (append-nil (content k)))

contents-append : (b : Book) (peer : ℕ) (fs gs : List ℕ) → contents_of_frames b peer (fs ++ gs) ≡ contents_of_frames b peer fs ++ contents_of_frames b peer gs
contents-append b peer [] gs = refl
contents-append b peer (f ∷ fs) gs =
    contents-cons b peer f (fs ++ gs)
    ∙ ap (λ (xs : List ℕ). joined_content (map content (option_to_list (kept_at b (slot_at peer f)))) ++ xs) (contents-append b peer fs gs)
    ∙ sym (append_assoc (joined_content (map content (option_to_list (kept_at b (slot_at peer f))))) (contents_of_frames b peer fs) (contents_of_frames b peer gs))
    ∙ ap (λ (xs : List ℕ). xs ++ contents_of_frames b peer gs) (sym (contents-cons b peer f fs))

take-next : (fs : List ℕ) (n f : ℕ) → slice_get fs n ≡ Some f → take (suc n) fs ≡ take n fs ++ f ∷ []
take-next [] n f at = absurd cc
take-next (g ∷ fs) zero f at = let same : g ≡ f = cc in ap (λ (x : ℕ). x ∷ []) same
take-next (g ∷ fs) (suc n) f at = ap (λ (xs : List ℕ). g ∷ xs) (take-next fs n f at)

-- what was copied of the first frames: so many bytes of their contents, and the rest of the room stays
pub record Copied (b : Book) (slot : Slot) (most : ℕ) (n size given : ℕ) (old new : List ℕ) : Type 0 where
  pub size_is : size ≡ length (contents_of_frames b slot.peer (take n (frames_at b slot)))
  pub given_is : given ≡ min most size
  pub bytes : take given new ≡ take most (contents_of_frames b slot.peer (take n (frames_at b slot)))
  pub rest : drop given new ≡ drop given old
  pub long : length new ≡ length old

-- the content is that of all frames
pub content-is : (b : Book) (s : Slot) → content_in (whole_at b s) ≡ contents_of_frames b s.peer (frames_at b s)
content-is b s = go (item_at b s)
  where
    go : (o : Option Item) → content_in (option_map (whole_of b s.peer) o) ≡ contents_of_frames b s.peer (frames_in (option_map (whole_of b s.peer) o))
    go None = refl
    go (Some i) = refl

-- one frame more
kept-some : (o : Option Kept) (p : List ℕ) → Some p ≡ option_map content o → joined_content (map content (option_to_list o)) ≡ p
kept-some None p is = absurd cc
kept-some (Some k) p is = let same : p ≡ content k = cc in append-nil (content k) ∙ sym same

pub content-next : (b : Book) (s : Slot) (n : ℕ) (p : List ℕ) → IsQueued b s → Some p ≡ option_map content (option_and_then (frame_at b s.peer n) (queued_at b s))
    → contents_of_frames b s.peer (take (n + 1) (frames_at b s)) ≡ contents_of_frames b s.peer (take n (frames_at b s)) ++ p
content-next b s n p queued told =
    let i = queued-same (item_at b s) queued in
    let item : queued_at b s ≡ Some i.0 = ap (option_and_then (if_state None)) i.1 ∙ ap (λ (x : Bool). cond x (Some i.0) None) i.2 in
    let frames = frames-some b s i.0 i.1 in
    by i.0 (slice_get (frames_of i.0) n) refl (told ∙ ap (λ (o : Option Item). option_map content (option_and_then (frame_at b s.peer n) o)) item) frames
  where
    by : (i : Item) (o : Option ℕ) → slice_get (frames_of i) n ≡ o → Some p ≡ option_map content (option_and_then (λ f. kept_at b (slot_at s.peer f)) (slice_get (frames_of i) n)) → frames_at b s ≡ frames_of i
        → contents_of_frames b s.peer (take (n + 1) (frames_at b s)) ≡ contents_of_frames b s.peer (take n (frames_at b s)) ++ p
    by i None at is frames = let none : Some p ≡ None = is ∙ ap (λ (o : Option ℕ). option_map content (option_and_then (λ f. kept_at b (slot_at s.peer f)) o)) at in absurd cc
    by i (Some f) at is frames =
        let kept : Some p ≡ option_map content (kept_at b (slot_at s.peer f)) = is ∙ ap (λ (o : Option ℕ). option_map content (option_and_then (λ f. kept_at b (slot_at s.peer f)) o)) at in
        let there : slice_get (frames_at b s) n ≡ Some f = ap (λ (fs : List ℕ). slice_get fs n) frames ∙ at in
        ap (contents_of_frames b s.peer) (rw add-one (take-next (frames_at b s) n f there))
        ∙ contents-append b s.peer (take n (frames_at b s)) (f ∷ [])
        ∙ ap (λ (xs : List ℕ). contents_of_frames b s.peer (take n (frames_at b s)) ++ xs) (contents-cons b s.peer f [] ∙ append-nil (joined_content (map content (option_to_list (kept_at b (slot_at s.peer f))))) ∙ kept-some (kept_at b (slot_at s.peer f)) p kept)

-- the first frames hold no more than all
pub content-within : (b : Book) (s : Slot) (n : ℕ) → length (contents_of_frames b s.peer (take n (frames_at b s))) ≤ length (content_in (whole_at b s))
content-within b s n =
    let all = content-is b s ∙ ap (contents_of_frames b s.peer) (sym (take-append-drop n (frames_at b s))) ∙ contents-append b s.peer (take n (frames_at b s)) (drop n (frames_at b s)) in
    let long = ap length all ∙ length-append (contents_of_frames b s.peer (take n (frames_at b s))) (contents_of_frames b s.peer (drop n (frames_at b s))) in
    omega (arith, long)

-- a piece more is copied, behind those before it
pub copied-next : (b : Book) (s : Slot) (most n size given count : ℕ) (old out ys p : List ℕ) → Copied b s most n size given old out → most ≤ length old
    → IsQueued b s → Some p ≡ option_map content (option_and_then (frame_at b s.peer n) (queued_at b s))
    → count ≡ min (length (mid_of given (most - given) out)) (length p) → take count ys ≡ take (length (mid_of given (most - given) out)) p → drop count ys ≡ drop count (mid_of given (most - given) out)
    → length ys ≡ length (mid_of given (most - given) out)
    → Copied b s most (n + 1) (size + length p) (given + count) old (put_mid given (most - given) out ys)
copied-next b s most n size given count old out ys p c room queued told counted begun rest long =
    record { size_is = grown; given_is = all-given; bytes = told-bytes; rest = told-rest; long = told-long }
  where
    before : List ℕ
    before = contents_of_frames b s.peer (take n (frames_at b s))

    next : contents_of_frames b s.peer (take (n + 1) (frames_at b s)) ≡ before ++ p
    next = content-next b s n p queued told

    grown : size + length p ≡ length (contents_of_frames b s.peer (take (n + 1) (frames_at b s)))
    grown = omega (arith, c.size_is, ap length next, length-append before p)

    middle : length (mid_of given (most - given) out) ≡ most - given
    middle = omega (arith, length-take (most - given) (drop given out), length-drop given out, c.long, c.given_is, room)

    counts : count ≡ min (most - given) (length p)
    counts = counted ∙ ap (λ (m : ℕ). min m (length p)) middle

    all-given : given + count ≡ min most (size + length p)
    all-given = omega (arith, c.given_is, counts)

    front : length (take given out) ≡ given
    front = omega (arith, length-take given out, c.long, c.given_is, room)

    behind : List ℕ
    behind = drop (most - given) (drop given out)

    copied : take (given + count) (put_mid given (most - given) out ys) ≡ take most before ++ take (most - given) p
    copied =
        ap (λ (m : ℕ). take (m + count) (take given out ++ (ys ++ behind))) (sym front)
        ∙ take-append-add (take given out) (ys ++ behind) count
        ∙ ap (λ (xs : List ℕ). xs ++ take count (ys ++ behind)) c.bytes
        ∙ ap (λ (xs : List ℕ). take most before ++ xs) (take-append-le count ys behind (omega (arith, counts, long, middle)) ∙ begun ∙ ap (λ (m : ℕ). take m p) middle)

    joined : take most before ++ take (most - given) p ≡ take most (before ++ p)
    joined = by (cases_lt most size)
      where
        by : (most < size) ⊎ (size ≤ most) → take most before ++ take (most - given) p ≡ take most (before ++ p)
        by (inl past) =
            let none : most - given ≡ 0 = omega (arith, c.given_is, past) in
            ap (λ (m : ℕ). take most before ++ take m p) none ∙ append-nil (take most before) ∙ sym (take-append-le most before p (omega (arith, c.size_is, past)))
        by (inr within) =
            let whole = take_all most before (omega (arith, c.size_is, within)) in
            let there : length before + (most - given) ≡ most = omega (arith, c.size_is, c.given_is, within) in
            ap (λ (xs : List ℕ). xs ++ take (most - given) p) whole ∙ sym (take-append-add before p (most - given)) ∙ ap (λ (m : ℕ). take m (before ++ p)) there

    told-bytes : take (given + count) (put_mid given (most - given) out ys) ≡ take most (contents_of_frames b s.peer (take (n + 1) (frames_at b s)))
    told-bytes = copied ∙ joined ∙ ap (take most) (sym next)

    told-rest : drop (given + count) (put_mid given (most - given) out ys) ≡ drop (given + count) old
    told-rest =
        ap (λ (m : ℕ). drop (m + count) (take given out ++ (ys ++ behind))) (sym front)
        ∙ drop-append-add (take given out) (ys ++ behind) count
        ∙ drop-append-le count ys behind (omega (arith, counts, long, middle))
        ∙ ap (λ (xs : List ℕ). xs ++ behind) rest
        ∙ sym (drop-append-le count (mid_of given (most - given) out) behind (omega (arith, counts, middle)))
        ∙ ap (drop count) (take-append-drop (most - given) (drop given out) ∙ c.rest)
        ∙ drop-drop count given old

    told-long : length (put_mid given (most - given) out ys) ≡ length old
    told-long = omega (arith, length-append (take given out) (ys ++ behind), length-append ys behind, front, long, middle, length-drop (most - given) (drop given out), length-drop given out, c.long, c.given_is, room)
