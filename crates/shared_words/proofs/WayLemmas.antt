-- What a step keeps of one way. It serves both.
use Rattle.std.proofs.Common.{◌≡◌, ◌≢◌, ◌⊎◌, ℕ, zero, suc, ◌+◌, ◌-◌, ◌%◌, ◌<◌, ◌≤◌, List, [], ◌∷◌, ◌++◌, length, set, get_or, sym, refl, ap, ◌∙◌, subst, inl, inr, ⊎_elim, arith, Some, append_assoc, length-append, get_or-set_other, get_or-set_same, mod-lt}
use mathlib.Core.Option.{none, some, some-injective, some-ne-none}
use lib.ListN.{get_elem?}
use Rattle.atomic_table.proofs.Lists.{set_here, set_else}
use Rattle.mc_base.specs.Stored.{Stored}
use Rattle.shared_words.specs.declared.view.Role.{Role}
use Rattle.shared_words.specs.declared.view.Role.TheVariants.{Driver, Device}
use Rattle.shared_words.specs.declared.view.Staged.{Staged}
use Rattle.shared_words.specs.declared.view.Staged.TheVariants.{Idle, NumberRead}
use Rattle.shared_words.specs.declared.field.Field.TheVariants.{DescAddr, DescFlags, DescNext, AvailFlags, UsedFlags}
use Rattle.shared_words.specs.Layout.{word, word_count}
use Rattle.shared_words.specs.Entry.{Entry, number_of, times}
use Rattle.shared_words.specs.Way.{Way, way_of, other, Homes, Standing, WayHolds}
use Rattle.shared_words.proofs.CountLemmas.{times-self, stands-there}

-- The words of a way

pub idx_within : (role : Role) (z : ℕ) → (way_of role z).idx < word_count z
idx_within Driver z = omega arith
idx_within Device z = omega arith

pub number_within : (role : Role) (z p : ℕ) → p < z → (way_of role z).number p < word_count z
number_within Driver z p l = omega arith
number_within Device z p l = omega arith

pub len_within : (role : Role) (z k : ℕ) → k < z → (way_of role z).len k < word_count z
len_within Driver z k l = omega arith
len_within Device z k l = omega arith

pub idx_not_number : (role : Role) (z p : ℕ) → (way_of role z).idx ≢ (way_of role z).number p
idx_not_number Driver z p e = omega arith
idx_not_number Device z p e = omega arith

pub idx_not_len : (role : Role) (z k : ℕ) → k < z → (way_of role z).idx ≢ (way_of role z).len k
idx_not_len Driver z k l e = omega arith
idx_not_len Device z k l e = omega arith

pub number_not_len : (role : Role) (z p k : ℕ) → k < z → (way_of role z).number p ≢ (way_of role z).len k
number_not_len Driver z p k l e = omega arith
number_not_len Device z p k l e = omega arith

pub number_same : (role : Role) (z p q : ℕ) → (way_of role z).number p ≡ (way_of role z).number q → p ≡ q
number_same Driver z p q e = omega arith
number_same Device z p q e = omega arith

pub len_same : (role : Role) (z p q : ℕ) → (way_of role z).len p ≡ (way_of role z).len q → p ≡ q
len_same Driver z p q e = omega arith
len_same Device z p q e = omega arith

pub len_place_small : (role : Role) (z n id : ℕ) → id < z → (way_of role z).len_place n id < z
len_place_small Driver z n id l = l
len_place_small Device z n id l = mod-lt n (omega arith)

-- the word is none of a way's
pub record IsFarFrom (role : Role) (z i : ℕ) : Type 0 where
  pub idx : i ≢ (way_of role z).idx
  pub number : (p : ℕ) → p < z → i ≢ (way_of role z).number p
  pub len : (k : ℕ) → k < z → i ≢ (way_of role z).len k

pub far_idx : (role : Role) (z : ℕ) → IsFarFrom (other role) z (way_of role z).idx
far_idx Driver z = record { idx = λ e. omega arith; number = λ p l e. omega arith; len = λ k l e. omega arith }
far_idx Device z = record { idx = λ e. omega arith; number = λ p l e. omega arith; len = λ k l e. omega arith }

pub far_number : (role : Role) (z p : ℕ) → p < z → IsFarFrom (other role) z ((way_of role z).number p)
far_number Driver z p low = record { idx = λ e. omega arith; number = λ q l e. omega arith; len = λ k l e. omega arith }
far_number Device z p low = record { idx = λ e. omega arith; number = λ q l e. omega arith; len = λ k l e. omega arith }

pub far_len : (role : Role) (z k : ℕ) → k < z → IsFarFrom (other role) z ((way_of role z).len k)
far_len Driver z k low = record { idx = λ e. omega arith; number = λ q l e. omega arith; len = λ q l e. omega arith }
far_len Device z k low = record { idx = λ e. omega arith; number = λ q l e. omega arith; len = λ q l e. omega arith }

-- the word is no constant
pub record IsMoving (z i : ℕ) : Type 0 where
  pub addr : (k : ℕ) → k < z → i ≢ word z (DescAddr k)
  pub flags : (k : ℕ) → k < z → i ≢ word z (DescFlags k)
  pub next : (k : ℕ) → k < z → i ≢ word z (DescNext k)
  pub avail_flags : i ≢ word z AvailFlags
  pub used_flags : i ≢ word z UsedFlags

pub moving_idx : (role : Role) (z : ℕ) → IsMoving z (way_of role z).idx
moving_idx Driver z = record { addr = λ k l e. omega arith; flags = λ k l e. omega arith; next = λ k l e. omega arith; avail_flags = λ e. omega arith; used_flags = λ e. omega arith }
moving_idx Device z = record { addr = λ k l e. omega arith; flags = λ k l e. omega arith; next = λ k l e. omega arith; avail_flags = λ e. omega arith; used_flags = λ e. omega arith }

pub moving_number : (role : Role) (z p : ℕ) → p < z → IsMoving z ((way_of role z).number p)
moving_number Driver z p low = record { addr = λ k l e. omega arith; flags = λ k l e. omega arith; next = λ k l e. omega arith; avail_flags = λ e. omega arith; used_flags = λ e. omega arith }
moving_number Device z p low = record { addr = λ k l e. omega arith; flags = λ k l e. omega arith; next = λ k l e. omega arith; avail_flags = λ e. omega arith; used_flags = λ e. omega arith }

pub moving_len : (role : Role) (z k : ℕ) → k < z → IsMoving z ((way_of role z).len k)
moving_len Driver z k low = record { addr = λ j l e. omega arith; flags = λ j l e. omega arith; next = λ j l e. omega arith; avail_flags = λ e. omega arith; used_flags = λ e. omega arith }
moving_len Device z k low = record { addr = λ j l e. omega arith; flags = λ j l e. omega arith; next = λ j l e. omega arith; avail_flags = λ e. omega arith; used_flags = λ e. omega arith }

-- Lists

module _ {A : Type 0} where
  pub at_rest : (xs ys : List A) (n : ℕ) (a : A) → length xs ≤ n → get_elem? (xs ++ ys) n ≡ some a → get_elem? ys (n - length xs) ≡ some a
  at_rest [] ys n a l e = subst (λ (k : ℕ). get_elem? ys k ≡ some a) (let h : n ≡ n - 0 = omega arith in h) e
  at_rest (x ∷ xs) ys zero a l e = absurd (omega arith)
  at_rest (x ∷ xs) ys (suc n) a l e = subst (λ (k : ℕ). get_elem? ys k ≡ some a) (let h : n - length xs ≡ suc n - length (x ∷ xs) = omega arith in h) (at_rest xs ys n a (omega arith) e)

  pub at_short : (xs : List A) (n : ℕ) (a : A) → get_elem? xs n ≡ some a → n < length xs
  at_short [] n a e = absurd (some-ne-none a (sym e))
  at_short (x ∷ xs) zero a e = omega arith
  at_short (x ∷ xs) (suc n) a e = let h = at_short xs n a e in omega (arith, h)

  pub at_before : (xs ys : List A) (n : ℕ) (a : A) → n < length xs → get_elem? (xs ++ ys) n ≡ some a → get_elem? xs n ≡ some a
  at_before [] ys n a l e = absurd (omega arith)
  at_before (x ∷ xs) ys zero a l e = e
  at_before (x ∷ xs) ys (suc n) a l e = at_before xs ys n a (omega arith) e

  pub at_next : (xs ys : List A) (a : A) → get_elem? (xs ++ a ∷ ys) (length xs) ≡ some a
  at_next [] ys a = refl
  at_next (x ∷ xs) ys a = at_next xs ys a

  pub first_of_rest : (xs ys : List A) → length xs < length (xs ++ ys) → (a : A) × (rest : List A) × (ys ≡ a ∷ rest)
  first_of_rest [] [] l = absurd (omega arith)
  first_of_rest [] (y ∷ ys) l = (y, ys, refl)
  first_of_rest (x ∷ xs) ys l = first_of_rest xs ys (omega arith)

  pub at_end : (xs : List A) (a : A) (n : ℕ) (b : A) → get_elem? (xs ++ a ∷ []) n ≡ some b → (get_elem? xs n ≡ some b) ⊎ ((n ≡ length xs) × (a ≡ b))
  at_end [] a zero b e = inr (refl, some-injective a b e)
  at_end [] a (suc n) b e = absurd (some-ne-none b (sym e))
  at_end (x ∷ xs) a zero b e = inl e
  at_end (x ∷ xs) a (suc n) b e = ⊎_elim (λ h. inl h) (λ t. inr (ap suc t.0, t.1)) (at_end xs a n b e)

pub get_apart : (words : List ℕ) (i j x : ℕ) → i ≢ j → get_or (set words i x) j 0 ≡ get_or words j 0
get_apart words i j x ne = get_or-set_other words i j x 0 (λ e. ne (sym e))

-- One way

module _ (role : Role) (z : ℕ) (words : List ℕ) (homes : Homes) (written taken : List Entry) (shown : ℕ) (st : Staged) (o : WayHolds (way_of role z) z words homes written taken shown st) where
  abbrev way : Way
  way = way_of role z

  pub left_there : (n : ℕ) (e : Entry) → length taken ≤ n → get_elem? written n ≡ some e → 0 < times (number_of e) o.left
  left_there n e l at = stands-there o.left (n - length taken) e (at_rest taken o.left n e l (subst (λ (xs : List Entry). get_elem? xs n ≡ some e) o.in_order at))

  -- a word, and slots, of which no entry that stands speaks
  pub way_stays : (i x : ℕ) (homes' : Homes) → i ≢ (way_of role z).idx
      → ((n : ℕ) (e : Entry) → length taken ≤ n → n < length written → 0 < times (number_of e) o.left → (i ≢ (way_of role z).number (n % z)) × (i ≢ (way_of role z).len ((way_of role z).len_place n (number_of e))) × (get_elem? homes' (number_of e) ≡ get_elem? homes (number_of e)))
      → WayHolds (way_of role z) z (set words i x) homes' written taken shown st
  way_stays i x homes' apart others = record {
    left = o.left;
    idx = get_apart words i way.idx x apart ∙ o.idx;
    in_order = o.in_order;
    shown_first = o.shown_first;
    written_first = o.written_first;
    standing = λ n e l at. let h = others n e l (at_short written n e at) (left_there n e l at) in let k = o.standing n e l at in record {
      number = get_apart words i (way.number (n % z)) x h.0 ∙ k.number;
      len = get_apart words i (way.len (way.len_place n (number_of e))) x h.1 ∙ k.len;
      slot = h.2 ∙ k.slot;
    };
    read = o.read;
  }

  -- idx is stored, and the buffer goes to its slot
  pub way_writes : (b : Stored) (len new : ℕ) → 0 < z → length homes ≡ z → b.number < z → (way_of role z).idx < length words → new ≡ (length written + 1) % 65536 → times b.number o.left ≡ 0
      → get_or words ((way_of role z).number (length written % z)) 0 ≡ b.number → get_or words ((way_of role z).len ((way_of role z).len_place (length written) b.number)) 0 ≡ len
      → ((e : Entry) → 0 < times (number_of e) o.left → number_of e < z)
      → WayHolds (way_of role z) z (set words (way_of role z).idx new) (set homes b.number (some (Some b))) (written ++ (b, len) ∷ []) taken shown st
  way_writes b len new pos deep small there is free number length_word low = let m : ℕ = length written in let x : Entry = (b, len) in record {
    left = o.left ++ x ∷ [];
    idx = get_or-set_same words way.idx new 0 there ∙ (is ∙ ap (λ (k : ℕ). k % 65536) (let h : m + 1 ≡ length (written ++ x ∷ []) = omega (arith, length-append written (x ∷ [])) in h));
    in_order = ap (λ (ys : List Entry). ys ++ x ∷ []) o.in_order ∙ append_assoc taken o.left (x ∷ []);
    shown_first = o.shown_first;
    written_first = let h = o.written_first in omega (arith, h, length-append written (x ∷ []));
    standing = λ n e l at. ⊎_elim
        (λ (old : get_elem? written n ≡ some e). let k = o.standing n e l old in let p = left_there n e l old in
        let ne : number_of e ≢ b.number = λ same. let q = subst (λ (k : ℕ). 0 < times k o.left) same p in omega (arith, q, free) in record {
          number = get_apart words way.idx (way.number (n % z)) new (idx_not_number role z (n % z)) ∙ k.number;
          len = get_apart words way.idx (way.len (way.len_place n (number_of e))) new (idx_not_len role z (way.len_place n (number_of e)) (len_place_small role z n (number_of e) (low e p))) ∙ k.len;
          slot = set_else homes b.number (number_of e) (some (Some b)) ne ∙ k.slot;
        })
        (λ (new_one : (n ≡ m) × (x ≡ e)). subst (λ (t : ℕ × Entry). Standing way z (set words way.idx new) (set homes b.number (some (Some b))) t.0 t.1) (λ i. (sym new_one.0 i, new_one.1 i))
        record {
          number = get_apart words way.idx (way.number (m % z)) new (idx_not_number role z (m % z)) ∙ number;
          len = get_apart words way.idx (way.len (way.len_place m b.number)) new (idx_not_len role z (way.len_place m b.number) (len_place_small role z m b.number small)) ∙ length_word;
          slot = set_here homes b.number (some (Some b)) (omega (arith, deep, small));
        })
        (at_end written x n e at);
    read = λ id is_read. let h = o.read id is_read in let s = o.written_first in (h.0, λ e at. h.1 e (at_before written (x ∷ []) (length taken) e (let l : length taken < length written = omega (arith, h.0, s) in l) at));
  }

  -- more is shown
  pub way_shows : (shown' : ℕ) (st' : Staged) → length taken ≤ shown' → shown' ≤ length written → ((id : ℕ) → st' ≡ NumberRead id → (st ≡ NumberRead id) × (shown ≤ shown')) → WayHolds (way_of role z) z words homes written taken shown' st'
  way_shows shown' st' low high read_before = record {
    left = o.left;
    idx = o.idx;
    in_order = o.in_order;
    shown_first = low;
    written_first = high;
    standing = o.standing;
    read = λ id e. let was = read_before id e in let r = o.read id was.0 in (omega (arith, r, was), r.1);
  }

  -- the taker reads the next number
  pub way_reads : (r : ℕ) → length taken < shown → r ≡ get_or words ((way_of role z).number (length taken % z)) 0 → WayHolds (way_of role z) z words homes written taken shown (NumberRead r)
  way_reads r l is = record {
    left = o.left;
    idx = o.idx;
    in_order = o.in_order;
    shown_first = o.shown_first;
    written_first = o.written_first;
    standing = o.standing;
    read = λ id e. (l, λ x at. let k = o.standing (length taken) x (omega arith) at in let same : r ≡ id = cc in sym k.number ∙ (sym is ∙ same));
  }

  -- the next entry
  pub next_entry : length taken < shown → (e : Entry) × (rest : List Entry) × (o.left ≡ e ∷ rest) × (get_elem? written (length taken) ≡ some e)
  next_entry l = let s = o.written_first in let q = o.in_order in let f = first_of_rest taken o.left (let h : length taken < length (taken ++ o.left) = subst (λ (xs : List Entry). length taken < length xs) q (omega (arith, l, s)) in h) in
      (f.0, f.1, f.2, subst (λ (xs : List Entry). get_elem? xs (length taken) ≡ some f.0) (sym (q ∙ ap (λ (ys : List Entry). taken ++ ys) f.2)) (at_next taken f.1 f.0))

  -- the next entry is taken, and its slot is out
  pub way_takes : (e : Entry) (rest : List Entry) → length taken < shown → o.left ≡ e ∷ rest → times (number_of e) o.left ≤ 1
      → WayHolds (way_of role z) z words (set homes (number_of e) none) written (taken ++ e ∷ []) shown Idle
  way_takes e rest l is once =
      let once' : times (number_of e) (e ∷ rest) ≤ 1 = subst (λ (xs : List Entry). times (number_of e) xs ≤ 1) is once in let self = times-self e in
      let order : written ≡ (taken ++ e ∷ []) ++ rest = o.in_order ∙ (ap (λ (ys : List Entry). taken ++ ys) is ∙ sym (append_assoc taken (e ∷ []) rest)) in record {
        left = rest;
        idx = o.idx;
        in_order = order;
        shown_first = omega (arith, l, length-append taken (e ∷ []));
        written_first = o.written_first;
        standing = λ n x le at. let h = length-append taken (e ∷ []) in let k = o.standing n x (omega (arith, le, h)) at in
            let there = stands-there rest (n - length (taken ++ e ∷ [])) x (at_rest (taken ++ e ∷ []) rest n x le (subst (λ (xs : List Entry). get_elem? xs n ≡ some x) order at)) in
            let ne : number_of x ≢ number_of e = λ same. let t = subst (λ (y : ℕ). 0 < times y rest) same there in omega (arith, t, once', self) in
            record { number = k.number; len = k.len; slot = set_else homes (number_of e) (number_of x) none ne ∙ k.slot };
        read = λ id e. absurd (cc);
      }

-- the arithmetic of a look
pub ahead_is : (m n : ℕ) → n ≤ m → m < n + 65536 → (m % 65536 + 65536 - n % 65536) % 65536 ≡ m - n
ahead_is m n le lt = omega arith
