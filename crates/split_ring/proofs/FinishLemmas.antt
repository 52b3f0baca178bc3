-- The end of a ring: its lists of numbers, and what is known of them.
use Rattle.std.proofs.Common.{◌≡◌, ℕ, zero, suc, ◌+◌, ◌-◌, ◌%◌, ◌<◌, ◌≤◌, Bool, true, false, cond, get_or, List, [], ◌∷◌, ◌++◌, map, length, sym, refl, ap, ◌∙◌, subst, arith, Option, length-append, bit_and}
use mathlib.Core.List.{map-append}
use mathlib.Core.Logic.{dite}
use native.Mathlib.Decide.{ℕ_discrete}
use Rattle.std.proofs.lemmas.List.{get_or_append_left, get_or_push}
use Rattle.std.specs.List.{All}
use Rattle.std.specs.List.Sorted.{IsStrictlyIncreasing}
use mathlib.Core.Option.{some}
use lib.ListN.{get_elem?}
use Rattle.mc_base.specs.Stored.{Stored}
use Rattle.shared_words.specs.declared.field.Field.TheVariants.{AvailIdx, UsedIdx}
use Rattle.shared_words.specs.declared.view.Role.TheVariants.{Driver, Device}
use Rattle.shared_words.specs.declared.field.Field.{Field}
use Rattle.shared_words.specs.Layout.{word, field_at}
use Rattle.shared_words.specs.Entry.{Entry, number_of, often, inside}
use Rattle.shared_words.specs.Shape.{IsRingSize, IsShape}
use Rattle.shared_words.specs.Way.{Way, available, used}
use Rattle.shared_words.specs.Constants.{InRange, IsLawful}
use Rattle.shared_words.specs.declared.rule.Shape.{Shape}
use Rattle.shared_words.specs.Slots.{numbers_from}
use Rattle.shared_words.specs.Shown.{RingId, TableShown, HalfShown, size_of, shape_of}
use Rattle.shared_words.specs.Closed.{IsClosed, AreFinal}
use Rattle.shared_words.proofs.CountLemmas.{by-append, Below, fewer}
use Rattle.shared_words.proofs.WayLemmas.{ahead_is}
use Rattle.shared_words.proofs.WordLemmas.{size_facts}
use Rattle.shared_words.proofs.HalfLemmas.{place_is, masked}
use Rattle.shared_words.proofs.Beginning.{numbers-more}
use Rattle.split_ring.proofs.LengthLemmas.{often-numbers, held_count_is}
use Rattle.split_ring.specs.declared.counts.Counts.{Counts}
use Rattle.split_ring.specs.declared.finish.Entries.{Entries}
use Rattle.split_ring.specs.declared.finish.Entries.TheVariants.{Offered, Returned}
use Rattle.split_ring.specs.Ends.{holding_of}
use Rattle.split_ring.specs.Kept.{end_of, IsKept, flag_count, HasFlags}
use Rattle.split_ring.specs.Left.{number_field, number_at, between, numbers_standing}
use Rattle.split_ring.specs.Finished.{FinishedRing, IsFinished}

-- The lists of the numbers that are held

pub add-count : (b : Bool) (out : List ℕ) (id x : ℕ) → often x (cond b (out ++ id ∷ []) out) ≡ often x out + cond b (often x (id ∷ [])) 0
add-count true out id x = by-append (λ (n : ℕ). n) x out (id ∷ [])
add-count false out id x = omega arith

-- a list that rises below k rises with k at its end
rises-push : (out : List ℕ) (k : ℕ) → IsStrictlyIncreasing out → ((i : ℕ) → i < length out → get_or out i 0 < k) → IsStrictlyIncreasing (out ++ k ∷ [])
rises-push out k rises low i within = let n = length-append out (k ∷ []) in let here = get_or_append_left out (k ∷ []) 0 i (omega (arith, within, n)) in let below = low i (omega (arith, within, n)) in
    dite (ℕ_discrete (i + 1) (length out))
    (λ e. let last = get_or_push out k 0 (i + 1) (sym e) in omega (arith, here, below, last))
    (λ ne. let next = get_or_append_left out (k ∷ []) 0 (i + 1) (omega (arith, within, n, ne)) in let up = rises i (omega (arith, within, n, ne)) in omega (arith, here, next, up))

low-push : (out : List ℕ) (k : ℕ) → ((i : ℕ) → i < length out → get_or out i 0 < k) → (i : ℕ) → i < length (out ++ k ∷ []) → get_or (out ++ k ∷ []) i 0 < k + 1
low-push out k low i within = let n = length-append out (k ∷ []) in dite (ℕ_discrete i (length out))
    (λ e. let last = get_or_push out k 0 i (sym e) in omega (arith, last))
    (λ ne. let here = get_or_append_left out (k ∷ []) 0 i (omega (arith, within, n, ne)) in let below = low i (omega (arith, within, n, ne)) in omega (arith, here, below))

pub rises-on : (b : Bool) (out : List ℕ) (k : ℕ) → IsStrictlyIncreasing out → ((i : ℕ) → i < length out → get_or out i 0 < k) → IsStrictlyIncreasing (cond b (out ++ k ∷ []) out) × ((i : ℕ) → i < length (cond b (out ++ k ∷ []) out) → get_or (cond b (out ++ k ∷ []) out) i 0 < k + 1)
rises-on true out k rises low = (rises-push out k rises low, low-push out k low)
rises-on false out k rises low = (rises, λ i within. let below = low i within in omega (arith, below))

-- The lists of the numbers that are left

pub standing-more : (words : List ℕ) (z : ℕ) (entries : Entries) (from n : ℕ) → numbers_standing words z entries from (n + 1) ≡ numbers_standing words z entries from n ++ number_at words z entries (from + n) ∷ []
standing-more words z entries from n = let f : ℕ → ℕ = λ k. number_at words z entries (from + k) in ap (map f) (numbers-more n) ∙ map-append f (numbers_from 0 n) (n ∷ [])

pub place_of : (from n z : ℕ) → IsRingSize z → bit_and ((from + n) % 65536) (z - 1) ≡ (from + n) % z
place_of from n z s = masked ((from + n) % 65536) z s ∙ place_is (from + n) z s

-- a count and the same modulo 65536 have one place
same_place : (t n z : ℕ) → IsRingSize z → (t % 65536 + n) % z ≡ (t + n) % z
same_place t n z s = sym (place_is (t % 65536 + n) z s) ∙ (ap (λ (k : ℕ). k % z) (let h : (t % 65536 + n) % 65536 ≡ (t + n) % 65536 = omega arith in h) ∙ place_is (t + n) z s)

mapped : (g : ℕ → ℕ) (left : List Entry) (j : ℕ) → ((n : ℕ) (e : Entry) → get_elem? left n ≡ some e → g (j + n) ≡ number_of e) → map g (numbers_from j (length left)) ≡ map number_of left
mapped g [] j h = refl
mapped g (e ∷ es) j h = let first : g j ≡ number_of e = ap g (let q : j ≡ j + 0 = omega arith in q) ∙ h 0 e refl in
    let more = mapped g es (suc j) (λ n d at. ap g (let q : suc j + n ≡ j + suc n = omega arith in q) ∙ h (suc n) d at) in λ i. first i ∷ more i

pub standing_is : (words : List ℕ) (z : ℕ) (entries : Entries) (t count : ℕ) (left : List Entry) → IsRingSize z → count ≡ length left → ((n : ℕ) (e : Entry) → get_elem? left n ≡ some e → field_at words z (number_field entries ((t + n) % z)) ≡ number_of e)
    → numbers_standing words z entries (t % 65536) count ≡ map number_of left
standing_is words z entries t count left s is stands = ap (numbers_standing words z entries (t % 65536)) is
    ∙ mapped (λ n. number_at words z entries (t % 65536 + n)) left 0 (λ n e at. ap (λ (p : ℕ). field_at words z (number_field entries p)) (ap (λ (k : ℕ). (t % 65536 + k) % z) (let q : 0 + n ≡ n = omega arith in q) ∙ same_place t n z s) ∙ stands n e at)

-- how many are left
pub between_is : (z : ℕ) (written taken left : List Entry) → IsRingSize z → written ≡ taken ++ left → Below z left → (between (length taken % 65536) (length written % 65536) ≡ length left) × (length left ≤ z)
between_is z written taken left s order below = let long = ap (length {A = Entry}) order ∙ length-append taken left in let few = fewer z left below in let small = size_facts z s in
    (ahead_is (length written) (length taken) (omega (arith, long)) (omega (arith, long, few, small)) ∙ (let h : length written - length taken ≡ length left = omega (arith, long) in h), few)

-- What is known at the end

at_or : {A : Type 0} (xs : List A) (k : ℕ) (d : A) → k < length xs → get_elem? xs k ≡ some (get_or xs k d)
at_or {A} [] k d h = absurd (omega (arith, h))
at_or {A} (x ∷ xs) zero d h = refl
at_or {A} (x ∷ xs) (suc k) d h = at_or xs k d (omega (arith, h))

-- each entry of a way fits
all_fit : (way : Way) (key : Shape) (words : List ℕ) (es : List Entry) → InRange way key words es → All (IsLawful key) es
all_fit way key words es r k d h = r.entries k (get_or es k d) (at_or es k d h)

module _ (ring : TableShown) (d e : HalfShown) (words : List ℕ) (home : List (Option Stored)) (c : IsClosed (shape_of ring) d.view e.view words home) (s : IsRingSize (size_of ring.ring)) where
  abbrev z : ℕ
  z = size_of ring.ring

  pub offered_below : Below (size_of ring.ring) c.offered_left
  offered_below x = let o = c.each_once x in omega (arith, o)

  pub returned_below : Below (size_of ring.ring) c.returned_left
  returned_below x = let o = c.each_once x in omega (arith, o)

  pub offered_idx : field_at words (size_of ring.ring) AvailIdx ≡ length d.view.written % 65536
  offered_idx = c.all_words.each AvailIdx tt

  pub returned_idx : field_at words (size_of ring.ring) UsedIdx ≡ length e.view.written % 65536
  returned_idx = c.all_words.each UsedIdx tt

  pub offered_between : (between (length e.view.taken % 65536) (length d.view.written % 65536) ≡ length c.offered_left) × (length c.offered_left ≤ size_of ring.ring)
  offered_between = between_is z d.view.written e.view.taken c.offered_left s c.offered offered_below

  pub returned_between : (between (length d.view.taken % 65536) (length e.view.written % 65536) ≡ length c.returned_left) × (length c.returned_left ≤ size_of ring.ring)
  returned_between = between_is z e.view.written d.view.taken c.returned_left s c.returned returned_below

  pub finishes : (dc ec : Counts) (df ef : List Bool) (r : FinishedRing) → IsKept Driver d dc → IsKept Device e ec → HasFlags Driver d df → HasFlags Device e ef → d.ring ≡ ring.ring → e.ring ≡ ring.ring → r.queue ≡ ring.queue → r.size ≡ size_of ring.ring → IsShape (shape_of ring) → r.width ≡ ring.ring.width → r.words ≡ words
      → r.offered_left ≡ numbers_standing words (size_of ring.ring) Offered ec.taken (between ec.taken (field_at words (size_of ring.ring) AvailIdx))
      → r.returned_left ≡ numbers_standing words (size_of ring.ring) Returned dc.taken (between dc.taken (field_at words (size_of ring.ring) UsedIdx))
      → ((x : ℕ) → often x r.driver_held ≡ flag_count df x) → ((x : ℕ) → often x r.device_held ≡ flag_count ef x)
      → IsStrictlyIncreasing r.driver_held → IsStrictlyIncreasing r.device_held → r.driver_looks ≡ dc.looks → r.driver_saw ≡ dc.saw → r.device_looks ≡ ec.looks → r.device_saw ≡ ec.saw
      → IsFinished ring (end_of d) (end_of e) r
  finishes dc ec df ef r kd ke fd fe d_on e_on queue size shape width words_are off ret dh eh dr er dl ds el es =
      let offered : r.offered_left ≡ map number_of c.offered_left = off ∙ ((λ i. numbers_standing words z Offered (ke.taken i) (between (ke.taken i) (offered_idx i)))
      ∙ standing_is words z Offered (length e.view.taken) (between (length e.view.taken % 65536) (length d.view.written % 65536)) c.offered_left s offered_between.0 c.offered_stand) in
      let returned : r.returned_left ≡ map number_of c.returned_left = ret ∙ ((λ i. numbers_standing words z Returned (kd.taken i) (between (kd.taken i) (returned_idx i)))
      ∙ standing_is words z Returned (length d.view.taken) (between (length d.view.taken % 65536) (length e.view.written % 65536)) c.returned_left s returned_between.0 c.returned_stand) in
      let d_holds : (x : ℕ) → often x r.driver_held ≡ holding_of Driver (end_of d) x = λ x. (let a = dh x in let b = fd.each x in omega (arith, a, b)) in
      let e_holds : (x : ℕ) → often x r.device_held ≡ holding_of Device (end_of e) x = λ x. (let a = eh x in let b = fe.each x in omega (arith, a, b)) in record {
        queue = queue;
        size = size;
        shape = shape;
        width = width;
        offered_fit = all_fit (available z) (shape_of ring) words d.view.written c.offered_in_range;
        returned_fit = all_fit (used z) (shape_of ring) words e.view.written c.returned_in_range;
        offered_rest = c.offered_left;
        returned_rest = c.returned_left;
        offered = c.offered;
        returned = c.returned;
        offered_numbers = offered;
        returned_numbers = returned;
        device_shown = c.device_shown;
        driver_shown = c.driver_shown;
        driver_holds = d_holds;
        device_holds = e_holds;
        driver_rises = dr;
        device_rises = er;
        driver_count = let a = held_count_is Driver d.view.taken d.view.written r.driver_held z (λ x. let h = d_holds x in let o = kd.sound.owned x in let g = ap (λ (g : RingId). inside (size_of g) x) d_on in omega (arith, h, o, g)) in omega (arith, a);
        device_count = let a = held_count_is Device e.view.taken e.view.written r.device_held z (λ x. let h = e_holds x in let o = ke.sound.owned x in omega (arith, h, o)) in omega (arith, a);
        each_once = λ x. let once = c.each_once x in let a = d_holds x in let b = e_holds x in let size_d = ap (λ (g : RingId). inside (size_of g) x) d_on in
            let p = by-append (λ (n : ℕ). n) x r.driver_held (r.offered_left ++ (r.device_held ++ r.returned_left)) in
            let q = by-append (λ (n : ℕ). n) x r.offered_left (r.device_held ++ r.returned_left) in
            let t = by-append (λ (n : ℕ). n) x r.device_held r.returned_left in
            let u = ap (often x) offered ∙ often-numbers x c.offered_left in let v = ap (often x) returned ∙ often-numbers x c.returned_left in omega (arith, once, a, b, size_d, p, q, t, u, v);
        all_words = subst (AreFinal (shape_of ring) d.view.written e.view.written) (sym words_are) c.all_words;
        driver_looked = dl ∙ kd.looks;
        driver_saw = ds ∙ kd.saw;
        device_looked = el ∙ ke.looks;
        device_saw = es ∙ ke.saw;
      }

-- a word as it was read
pub word_found : (all words : List ℕ) (i size z : ℕ) (f : Field) → all ≡ words → i ≡ word size f → size ≡ z → get_or all i 0 ≡ field_at words z f
word_found all words i size z f same is fit = (λ k. get_or (same k) (is k) 0) ∙ ap (λ (y : ℕ). get_or words (word y f) 0) fit

pub numbers_found : (all words : List ℕ) (size z : ℕ) (entries : Entries) (from to to' : ℕ) (out : List ℕ) → all ≡ words → size ≡ z → to ≡ to' → out ≡ numbers_standing all size entries from (between from to) → out ≡ numbers_standing words z entries from (between from to')
numbers_found all words size z entries from to to' out same fit t is = is ∙ (λ k. numbers_standing (same k) (fit k) entries from (between from (t k)))
