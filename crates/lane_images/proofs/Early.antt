-- A receiver has a number out at most once, so each giving back of it is of one of the frames that it took up to then.
use Rattle.std.proofs.Common.{◌≡◌, ℕ, ◌+◌, ◌≤◌, true, false, cond, ltb, List, [], ◌∷◌, ◌++◌, take, Some, ap, sym, ◌∙◌, subst, arith, append_assoc}
use Rattle.std.specs.Prelude.{slice_get}
use Rattle.lane_end.specs.Numbers.{often, inside, AreApart}
use Rattle.lane_end.specs.ReceiveMoves.{ReceiveMove, Looked, Took, Gave}
use Rattle.lane_end.specs.ReceiveParts.{frames_taken, numbers_given}
use Rattle.lane_end.specs.ReceiverContract.{without}
use Rattle.lane_end.specs.PlainLane.{carriers}
use Rattle.lane_end.specs.RingReceiver.{OutMoves}
use Rattle.lane_end.proofs.CountLemmas.{often-append, often-contained, often-without}
use Rattle.lane_images.specs.GivesAt.{GivesAt}
use Rattle.lane_images.proofs.Fronts.{get-more, take-more, front-less}

-- each number that is given back stands at its place, and up to there no more often than it was given back, this time included
abbrev pub Early : List ℕ → List ℕ → List ℕ → List ℕ → Type 0
Early nums before [] [] = Unit {0}
Early nums before (place ∷ places) (n ∷ given) = (slice_get nums place ≡ Some n) × (often n (take (place + 1) nums) ≤ often n before + 1) × Early nums (before ++ n ∷ []) places given
Early nums before places given = ⊥

pub inside-once : (size x : ℕ) → inside size x ≤ 1
inside-once size x = elim (ltb x size) as (λ b. cond b 1 0 ≤ 1) [ true ↦ omega arith | false ↦ omega arith ]

pub early : (size : ℕ) (nums taken out before places rest new : List ℕ) (moves : List ReceiveMove) → nums ≡ taken ++ (carriers (frames_taken moves) ++ rest) → ((x : ℕ) → often x out + often x before ≡ often x taken)
    → AreApart size out → OutMoves size out moves new → GivesAt taken places moves → Early nums before places (numbers_given moves)
early size nums taken out before places rest new [] is holds apart o g = subst (λ (ps : List ℕ). Early nums before ps []) (sym g) tt
early size nums taken out before places rest new (Looked n ∷ ms) is holds apart o g = early size nums taken out before places rest new ms is holds apart o g
early size nums taken out before places rest new (Took n frame ∷ ms) is holds apart o g =
    early size nums (taken ++ n ∷ []) (out ++ n ∷ []) before places rest new ms (is ∙ sym (append_assoc taken (n ∷ []) (carriers (frames_taken ms) ++ rest)))
    (λ x. let h = holds x in let a = often-append x out (n ∷ []) in let b = often-append x taken (n ∷ []) in omega (arith, h, a, b)) o.0 o.1 g
early size nums taken out before [] rest new (Gave n ∷ ms) is holds apart o g = absurd g
early size nums taken out before (place ∷ places) rest new (Gave n ∷ ms) is holds apart o g =
    let there = often-contained out n o.0 in
    let first : often n (take (place + 1) nums) ≤ often n before + 1 =
    let e = ap (λ (l : List ℕ). often n (take (place + 1) l)) is in
    let t = ap (often n) (take-more taken (carriers (frames_taken ms) ++ rest) place n g.0) in
    let l = front-less n (place + 1) taken in let h = holds n in let a = apart n in let i = inside-once size n in omega (arith, e, t, l, h, a, i) in (
      subst (λ (l : List ℕ). slice_get l place ≡ Some n) (sym is) (get-more taken (carriers (frames_taken ms) ++ rest) place n g.0),
      first,
      early size nums taken (without n out) (before ++ n ∷ []) places rest new ms is
          (λ x. let h = holds x in let w = often-without x n out there in let a = often-append x before (n ∷ []) in omega (arith, h, w, a))
          (λ x. let a = apart x in let w = often-without x n out there in omega (arith, a, w)) o.1 g.1,
    )
