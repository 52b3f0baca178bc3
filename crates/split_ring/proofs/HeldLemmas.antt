-- A list of buffers that a half holds: the last of them can be written, and the rest is held after it.
use Rattle.std.proofs.Common.{◌≡◌, ℕ, ◌+◌, List, [], ◌∷◌, ◌++◌, length, ap, sym, subst, ◌∙◌, arith, inl, inr, Some}
use Rattle.std.specs.List.{All}
use Rattle.std.proofs.lemmas.List.Elements.{All-append, All-head, All-rest, All-push, All-pop, All-take, All-drop}
use Rattle.std.proofs.Math.Seq.{take-append_seam}
use Rattle.std.proofs.Math.Seq.{drop-append_seam}
use mathlib.Core.Logic.{dite}
use native.Mathlib.Decide.{ℕ_discrete}
use Rattle.mc_base.specs.Stored.{Stored}
use Rattle.shared_words.specs.declared.view.Role.{Role}
use Rattle.shared_words.specs.Places.{begins}
use Rattle.shared_words.specs.Shown.{RingId, size_of}
use Rattle.shared_words.specs.Entry.{Entry, times, times_by}
use Rattle.shared_words.proofs.CountLemmas.{by-append, by-is, by-other, times-append, times-is, times-other}
use Rattle.split_ring.specs.Ends.{End, writes, TakesNext, holding_of, HoldsNumber, HoldsBuffer, HoldsNumbers, HasWidth, AreHeld, IsSound}

abbrev pub number : Stored → ℕ
number b = b.number

last_numbers : (role : Role) (half : End) (bs more : List Stored) (b : Stored) → bs ≡ more ++ b ∷ [] → HoldsNumbers role half bs → HoldsNumber role half b.number
last_numbers role half bs more b is held = let h = held b.number in let a = ap (times_by number b.number) is ∙ by-append number b.number more (b ∷ []) in let one = by-is number b.number b (λ i. b.number) in omega (arith, h, a, one)

rest_numbers : (role : Role) (half new : End) (bs more : List Stored) (b : Stored) (len : ℕ) → bs ≡ more ++ b ∷ [] → new ≡ writes (b, len) half → HoldsNumbers role half bs → HoldsNumbers role new more
rest_numbers role half new bs more b len is after held x = let e : Entry = (b, len) in let h = held x in let a = ap (times_by number x) is ∙ by-append number x more (b ∷ []) in let w = times-append x half.written (e ∷ []) in
    let k = ap (λ (n : End). holding_of role n x) after in dite (ℕ_discrete b.number x)
    (λ q. let one = by-is number x b q in let t = times-is x e q in omega (arith, h, a, w, k, one, t))
    (λ ne. let one = by-other number x b ne in let t = times-other x e ne in omega (arith, h, a, w, k, one, t))

-- what a fetch or a reclaim changes of what is held
taken_counts : (role : Role) (old new : End) (e : Entry) (x : ℕ) → TakesNext old (Some e) new → (new.ring ≡ old.ring) × (times x new.written ≡ times x old.written) × (times x new.taken ≡ times x old.taken + times x (e ∷ []))
taken_counts role old new e x (inl (left, is)) = (ap (λ (n : End). n.ring) is, ap (λ (n : End). times x n.written) is, ap (λ (n : End). times x n.taken) is ∙ times-append x old.taken (e ∷ []))
taken_counts role old new e x (inr (none_left, (n, some_shown, is))) = (ap (λ (m : End). m.ring) is, ap (λ (m : End). times x m.written) is, ap (λ (m : End). times x m.taken) is ∙ times-append x old.taken (e ∷ []))

more_numbers : (role : Role) (old new : End) (bs : List Stored) (e : Entry) → IsSound role old → TakesNext old (Some e) new → HoldsNumbers role old bs → HoldsNumbers role new (bs ++ e.0 ∷ [])
more_numbers role old new bs e sound t held x = let o = sound.owned x in let h = held x in let k = taken_counts role old new e x t in let a = by-append number x bs (e.0 ∷ []) in
    let size = ap (λ (r : RingId). begins role (size_of r) x) k.0 in dite (ℕ_discrete e.0.number x)
    (λ q. let one = by-is number x e.0 q in let u = times-is x e q in omega (arith, o, h, k, a, size, one, u))
    (λ ne. let one = by-other number x e.0 ne in let u = times-other x e ne in omega (arith, o, h, k, a, size, one, u))

first_numbers : (role : Role) (half : End) (bs more : List Stored) (b : Stored) → bs ≡ b ∷ more → HoldsNumbers role half bs → HoldsNumber role half b.number
first_numbers role half bs more b is held = let h = held b.number in let a = ap (times_by number b.number) is ∙ by-append number b.number (b ∷ []) more in let one = by-is number b.number b (λ i. b.number) in omega (arith, h, a, one)

tail_numbers : (role : Role) (half new : End) (bs more : List Stored) (b : Stored) (len : ℕ) → bs ≡ b ∷ more → new ≡ writes (b, len) half → HoldsNumbers role half bs → HoldsNumbers role new more
tail_numbers role half new bs more b len is after held x = let e : Entry = (b, len) in let h = held x in let a = ap (times_by number x) is ∙ by-append number x (b ∷ []) more in let w = times-append x half.written (e ∷ []) in
    let k = ap (λ (n : End). holding_of role n x) after in dite (ℕ_discrete b.number x)
    (λ q. let one = by-is number x b q in let t = times-is x e q in omega (arith, h, a, w, k, one, t))
    (λ ne. let one = by-other number x b ne in let t = times-other x e ne in omega (arith, h, a, w, k, one, t))

-- the same buffers in another order
turned_numbers : (role : Role) (half : End) (bs front back : List Stored) → bs ≡ front ++ back → HoldsNumbers role half bs → HoldsNumbers role half (back ++ front)
turned_numbers role half bs front back is held x = let h = held x in let a = ap (times_by number x) is ∙ by-append number x front back in let b = by-append number x back front in omega (arith, h, a, b)

fronted_numbers : (role : Role) (old new : End) (bs : List Stored) (e : Entry) → IsSound role old → TakesNext old (Some e) new → HoldsNumbers role old bs → HoldsNumbers role new (e.0 ∷ bs)
fronted_numbers role old new bs e sound t held = turned_numbers role new (bs ++ e.0 ∷ []) bs (e.0 ∷ []) (λ i. bs ++ e.0 ∷ []) (more_numbers role old new bs e sound t held)

-- The same with the bytes

-- buffers that are wide stay so where the ring is the same
still_wide : (half new : End) (bs : List Stored) → new.ring ≡ half.ring → All (HasWidth half) bs → All (HasWidth new) bs
still_wide half new bs same wide = subst (λ (r : RingId). All (λ (b : Stored). length b.bytes ≡ r.width) bs) (sym same) wide

taken_ring : (role : Role) (old new : End) (e : Entry) → TakesNext old (Some e) new → new.ring ≡ old.ring
taken_ring role old new e t = (taken_counts role old new e 0 t).0

pub last_held : (role : Role) (half : End) (bs more : List Stored) (b : Stored) → bs ≡ more ++ b ∷ [] → AreHeld role half bs → HoldsBuffer role half b
last_held role half bs more b is held = (last_numbers role half bs more b is held.numbers, (All-pop (HasWidth half) bs more (Some b) is held.wide).1)

pub rest_held : (role : Role) (half new : End) (bs more : List Stored) (b : Stored) (len : ℕ) → bs ≡ more ++ b ∷ [] → new ≡ writes (b, len) half → AreHeld role half bs → AreHeld role new more
rest_held role half new bs more b len is after held = record {
  numbers = rest_numbers role half new bs more b len is after held.numbers;
  wide = still_wide half new more (ap (λ (n : End). n.ring) after) (All-pop (HasWidth half) bs more (Some b) is held.wide).0;
}

pub more_held : (role : Role) (old new : End) (bs : List Stored) (e : Entry) → IsSound role old → TakesNext old (Some e) new → AreHeld role old bs → HasWidth new e.0 → AreHeld role new (bs ++ e.0 ∷ [])
more_held role old new bs e sound t held wide = record {
  numbers = more_numbers role old new bs e sound t held.numbers;
  wide = All-push (HasWidth new) bs e.0 (still_wide old new bs (taken_ring role old new e t) held.wide) wide;
}

pub first_held : (role : Role) (half : End) (bs more : List Stored) (b : Stored) → bs ≡ b ∷ more → AreHeld role half bs → HoldsBuffer role half b
first_held role half bs more b is held = (first_numbers role half bs more b is held.numbers, All-head (HasWidth half) b more (subst (All (HasWidth half)) is held.wide))

pub tail_held : (role : Role) (half new : End) (bs more : List Stored) (b : Stored) (len : ℕ) → bs ≡ b ∷ more → new ≡ writes (b, len) half → AreHeld role half bs → AreHeld role new more
tail_held role half new bs more b len is after held = record {
  numbers = tail_numbers role half new bs more b len is after held.numbers;
  wide = still_wide half new more (ap (λ (n : End). n.ring) after) (All-rest (HasWidth half) b more bs is held.wide);
}

pub turned_held : (role : Role) (half : End) (bs front back : List Stored) → bs ≡ front ++ back → AreHeld role half bs → AreHeld role half (back ++ front)
turned_held role half bs front back is held = let both : All (HasWidth half) (front ++ back) = subst (All (HasWidth half)) is held.wide in record {
  numbers = turned_numbers role half bs front back is held.numbers;
  wide = All-append (HasWidth half) back front (subst (All (HasWidth half)) (drop-append_seam front back) (All-drop (HasWidth half) (length front) (front ++ back) both)) (subst (All (HasWidth half)) (take-append_seam front back) (All-take (HasWidth half) (length front) (front ++ back) both));
}

pub fronted_held : (role : Role) (old new : End) (bs : List Stored) (e : Entry) → IsSound role old → TakesNext old (Some e) new → AreHeld role old bs → HasWidth new e.0 → AreHeld role new (e.0 ∷ bs)
fronted_held role old new bs e sound t held wide = turned_held role new (bs ++ e.0 ∷ []) bs (e.0 ∷ []) (λ i. bs ++ e.0 ∷ []) (more_held role old new bs e sound t held wide)
