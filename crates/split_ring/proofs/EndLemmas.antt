-- What a call keeps of a half.
use Rattle.std.proofs.Common.{◌≡◌, ℕ, ◌+◌, ◌-◌, ◌%◌, ◌^◌, ◌<◌, ◌≤◌, Bool, true, false, cond, get_or, set, get_or-set_other, get_or-set_same, length-set, List, [], ◌∷◌, ◌++◌, length, sym, refl, ap, ◌∙◌, subst, arith, length-append}
use mathlib.Core.Logic.{dite}
use native.Mathlib.Decide.{ℕ_discrete, dec_lt}
use Rattle.shared_words.specs.Entry.{Entry, number_of, times, inside}
use Rattle.shared_words.specs.Places.{begins}
use Rattle.shared_words.specs.Change.{staging, writing, taking, number_in}
use Rattle.shared_words.specs.Shown.{RingId, TableShown, HalfShown, with_view, size_of}
use Rattle.shared_words.specs.Shown as table
use Rattle.shared_words.specs.declared.view.Staged.TheVariants.{NumberRead}
use Rattle.shared_words.specs.declared.view.Role.{Role}
use Rattle.shared_words.specs.declared.view.HalfView.{HalfView}
use Rattle.shared_words.proofs.CountLemmas.{inside-yes, inside-lt, times-append, times-is, times-other}
use Rattle.split_ring.specs.Ends.{End, writes, takes, IsLeft, HoldsNumber, IsSound}
use Rattle.split_ring.specs.Kept.{end_of, IsKept, HasFlags}
use Rattle.split_ring.specs.declared.counts.Counts.{Counts}

pub sound_writes : (role : Role) (e : Entry) (half : End) → IsSound role half → HoldsNumber role half (number_of e) → IsSound role (writes e half)
sound_writes role e half s held =
    let more : (x : ℕ) → times x (half.written ++ e ∷ []) ≡ times x half.written + times x (e ∷ []) = λ x. times-append x half.written (e ∷ []) in record {
      owned = λ x. let m = more x in let o = s.owned x in dite (ℕ_discrete (number_of e) x)
          (λ q. let t = times-is x e q in let h = subst (HoldsNumber role half) q held in omega (arith, m, t, h)) (λ ne. let t = times-other x e ne in omega (arith, m, t, o));
      differ = λ x. let m = more x in let d = s.differ x in omega (arith, m, d);
      shown = s.shown;
      room = let r = s.room in omega (arith, r, length-append half.written (e ∷ []));
    }

pub sound_takes : (role : Role) (e : Entry) (half : End) → IsSound role half → IsLeft half → (HoldsNumber role half (number_of e) → ⊥) → number_of e < size_of half.ring → IsSound role (takes e half)
sound_takes role e half s left not_held low =
    let more : (x : ℕ) → times x (half.taken ++ e ∷ []) ≡ times x half.taken + times x (e ∷ []) = λ x. times-append x half.taken (e ∷ []) in record {
      owned = λ x. let m = more x in let o = s.owned x in omega (arith, m, o);
      differ = λ x. let m = more x in let d = s.differ x in dite (ℕ_discrete (number_of e) x)
          (λ q. let t = times-is x e q in let i = inside-yes (size_of half.ring) (number_of e) low in let j = ap (inside (size_of half.ring)) q in
          dite (dec_lt (times x half.written) (begins role (size_of half.ring) x + times x half.taken)) (λ h. absurd (not_held (subst (HoldsNumber role half) (sym q) h))) (λ n. omega (arith, m, t, i, j, n)))
          (λ ne. let t = times-other x e ne in omega (arith, m, t, d));
      shown = let m = length-append half.taken (e ∷ []) in omega (arith, m, left);
      room = s.room;
    }

-- a view with another count of steps, which no end shows
abbrev pub counted : ℕ → HalfView → HalfView
counted steps view = record view { steps = steps }

kept_writes : (role : Role) (e : Entry) (half : HalfShown) (counts : Counts) (steps : ℕ) → IsKept role half counts → HoldsNumber role (end_of half) (number_of e) → IsKept role (with_view (counted steps (writing e half.view)) half) counts
kept_writes role e half counts steps k held = record {
  same_role = k.same_role;
  idle = refl;
  sound = sound_writes role e (end_of half) k.sound held;
  taken = k.taken;
  left = k.left;
  looks = k.looks;
  saw = k.saw;
}

kept_takes : (role : Role) (e : Entry) (half : HalfShown) (counts : Counts) (steps : ℕ) → IsKept role half counts → IsLeft (end_of half) → (HoldsNumber role (end_of half) (number_of e) → ⊥) → number_of e < size_of half.ring
    → IsKept role (with_view (counted steps (taking e half.view)) half) (record counts { taken = (counts.taken + 1) % 2 ^ 16; left = counts.left - 1 })
kept_takes role e half counts steps k left not_held low = record {
  same_role = k.same_role;
  idle = refl;
  sound = sound_takes role e (end_of half) k.sound left not_held low;
  taken = let t = k.taken in omega (arith, t, length-append half.view.taken (e ∷ []));
  left = let l = k.left in omega (arith, l, left, length-append half.view.taken (e ∷ []));
  looks = k.looks;
  saw = k.saw;
}

-- what the table says of a number that was not held, once its number was read
not_held_before : (role : Role) (h now : HalfShown) (r n : ℕ) → h.role ≡ role → now ≡ with_view (staging (NumberRead r) h.view) h → (table.HoldsNumber now n → ⊥) → HoldsNumber role (end_of h) n → ⊥
not_held_before role h now r n same is none_there held =
    none_there (subst (λ (x : HalfShown). table.HoldsNumber x n) (sym is) (subst (λ (x : Role). times n h.view.written < begins x (size_of h.ring) n + times n h.view.taken) (sym same) held))

read_below : (h now : HalfShown) (on on' : TableShown) (r n : ℕ) → now ≡ with_view (staging (NumberRead r) h.view) h → n ≡ number_in now.view.staged → r < size_of on.ring → on ≡ on' → h.ring ≡ on'.ring → n < size_of h.ring
read_below h now on on' r n is number low same fit = let q : size_of on.ring ≡ size_of h.ring = ap (λ (x : TableShown). size_of x.ring) same ∙ ap size_of (sym fit) in let s = ap (λ (x : HalfShown). number_in x.view.staged) is in omega (arith, number, s, low, q)

flag-le : (b : Bool) → cond b 1 0 ≤ 1
flag-le true = omega arith
flag-le false = omega arith

-- the flags after a number was written or taken
flags_write : (role : Role) (e : Entry) (half : HalfShown) (flags : List Bool) (steps : ℕ) → HasFlags role half flags → number_of e < length flags → HoldsNumber role (end_of half) (number_of e) → HasFlags role (with_view (counted steps (writing e half.view)) half) (set flags (number_of e) false)
flags_write role e half flags steps f low held = let n : ℕ = number_of e in record {
  count = length-set flags n false ∙ f.count;
  each = λ x. let h = f.each x in let more = times-append x half.view.written (e ∷ []) in dite (ℕ_discrete n x)
      (λ q. let b = subst (λ (y : ℕ). get_or (set flags n false) y false ≡ false) q (get_or-set_same flags n false false low) in let c = ap {B = ℕ} (λ (v : Bool). cond v 1 0) b in let t = times-is x e q in
      let o = flag-le (get_or flags x false) in let h' = subst (HoldsNumber role (end_of half)) q held in omega (arith, h, more, c, t, o, h'))
      (λ ne. let b = get_or-set_other flags n x false false (λ q. ne (sym q)) in let c = ap {B = ℕ} (λ (v : Bool). cond v 1 0) b in let t = times-other x e ne in omega (arith, h, more, c, t));
}

flags_take : (role : Role) (e : Entry) (half : HalfShown) (flags : List Bool) (steps : ℕ) → HasFlags role half flags → number_of e < length flags → (HoldsNumber role (end_of half) (number_of e) → ⊥) → HasFlags role (with_view (counted steps (taking e half.view)) half) (set flags (number_of e) true)
flags_take role e half flags steps f low free = let n : ℕ = number_of e in record {
  count = length-set flags n true ∙ f.count;
  each = λ x. let h = f.each x in let more = times-append x half.view.taken (e ∷ []) in dite (ℕ_discrete n x)
      (λ q. let b = subst (λ (y : ℕ). get_or (set flags n true) y false ≡ true) q (get_or-set_same flags n true false low) in let c = ap {B = ℕ} (λ (v : Bool). cond v 1 0) b in let t = times-is x e q in
      dite (dec_lt (times x half.view.written) (begins role (size_of half.ring) x + times x half.view.taken)) (λ l. absurd (free (subst (HoldsNumber role (end_of half)) (sym q) l))) (λ no. omega (arith, h, more, c, t, no)))
      (λ ne. let b = get_or-set_other flags n x true false (λ q. ne (sym q)) in let c = ap {B = ℕ} (λ (v : Bool). cond v 1 0) b in let t = times-other x e ne in omega (arith, h, more, c, t));
}

-- a number that is held is below the size
held_below : (role : Role) (half : End) (n : ℕ) → IsSound role half → HoldsNumber role half n → n < size_of half.ring
held_below role half n s held = let d = s.differ n in inside-lt (size_of half.ring) n (omega (arith, d, held))

-- a number that was just taken is held
taken_held : (role : Role) (e : Entry) (half : End) → IsSound role half → HoldsNumber role (takes e half) (number_of e)
taken_held role e half s = let o = s.owned (number_of e) in let more = times-append (number_of e) half.taken (e ∷ []) in let one = times-is (number_of e) e refl in omega (arith, o, more, one)

-- a half that wrote an entry, whatever steps that took
pub half_writes : (role : Role) (e : Entry) (half new : HalfShown) (counts : Counts) (flags : List Bool) (id steps : ℕ) → IsKept role half counts → HasFlags role half flags → HoldsNumber role (end_of half) (number_of e) → id ≡ number_of e
    → new ≡ with_view (counted steps (writing e half.view)) half → IsKept role new counts × HasFlags role new (set flags id false)
half_writes role e half new counts flags id steps k f held same is = let low = held_below role (end_of half) (number_of e) k.sound held in let count = f.count in (
  subst (λ (x : HalfShown). IsKept role x counts) (sym is) (kept_writes role e half counts steps k held),
  subst (λ (x : HalfShown × ℕ). HasFlags role x.0 (set flags x.1 false)) (λ i. (sym is i, sym same i)) (flags_write role e half flags steps f (omega (arith, low, count)) held),
)

-- a half that read a number, and took the entry with it
pub record HasTaken (role : Role) (e : Entry) (before new : HalfShown) (counts : Counts) (flags : List Bool) (id : ℕ) : Type 0 where
  pub is_kept : IsKept role new (record counts { taken = (counts.taken + 1) % 2 ^ 16; left = counts.left - 1 })
  pub has_flags : HasFlags role new (set flags id true)
  pub is_held : HoldsNumber role (end_of new) (number_of e)
  pub same_ring : new.ring ≡ before.ring

pub half_takes : (role : Role) (e : Entry) (half read new : HalfShown) (on on' : TableShown) (counts : Counts) (flags : List Bool) (id : ℕ) → IsKept role half counts → HasFlags role half flags → IsLeft (end_of half) → on ≡ on' → half.ring ≡ on'.ring
    → read ≡ with_view (staging (NumberRead id) half.view) half → id < size_of on.ring → new ≡ with_view (taking e read.view) read → number_of e ≡ number_in read.view.staged → (table.HoldsNumber read (number_of e) → ⊥)
    → HasTaken role e half new counts flags id
half_takes role e half read new on on' counts flags id k f left same fit reads below takes_it number none_there =
    let steps : ℕ = half.view.steps + 1 + 1 in
    let is : new ≡ with_view (counted steps (taking e half.view)) half = takes_it ∙ ap (λ (x : HalfShown). with_view (taking e x.view) x) reads in
    let low = read_below half read on on' id (number_of e) reads number below same fit in let count = f.count in
    let free = not_held_before role half read id (number_of e) k.same_role reads none_there in
    let num : number_of e ≡ id = number ∙ ap (λ (x : HalfShown). number_in x.view.staged) reads in record {
      is_kept = subst (λ (x : HalfShown). IsKept role x (record counts { taken = (counts.taken + 1) % 2 ^ 16; left = counts.left - 1 })) (sym is) (kept_takes role e half counts steps k left free low);
      has_flags = subst (λ (x : HalfShown × ℕ). HasFlags role x.0 (set flags x.1 true)) (λ i. (sym is i, num i)) (flags_take role e half flags steps f (omega (arith, low, count)) free);
      is_held = subst (λ (x : HalfShown). HoldsNumber role (end_of x) (number_of e)) (sym is) (taken_held role e (end_of half) k.sound);
      same_ring = ap (λ (x : HalfShown). x.ring) is;
    }
