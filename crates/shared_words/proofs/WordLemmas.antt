-- What a store keeps of the words of a way: what is staged, the last entries and the ranges.
use Rattle.std.proofs.Common.{◌≡◌, ◌≢◌, ℕ, suc, ◌+◌, ◌-◌, ◌*◌, ◌%◌, ◌<◌, ◌≤◌, ◌^◌, eqb, cond, Bool, List, [], ◌∷◌, ◌++◌, length, set, get_or, sym, refl, ap, ◌∙◌, subst, ⊎_elim, arith, get_or-set_same, eq-eqb, ne_eqb}
use Rattle.std.proofs.Math.Pow.{pow_mono}
use Rattle.std.proofs.Math.Nat.{mul-mod_left}
use Rattle.std.proofs.lemmas.Nat.{pow-add}
use mathlib.Core.Logic.{dite}
use mathlib.Core.Option.{some}
use native.Mathlib.Decide.{ℕ_discrete}
use lib.ListN.{get_elem?}
use Rattle.shared_words.specs.declared.rule.Shape.{Shape}
use Rattle.shared_words.specs.declared.view.Role.{Role}
use Rattle.shared_words.specs.declared.view.Role.TheVariants.{Driver, Device}
use Rattle.shared_words.specs.declared.view.Staged.{Staged}
use Rattle.shared_words.specs.declared.view.Staged.TheVariants.{Idle, LengthStored, NumberStored, BothStored, NumberRead}
use Rattle.shared_words.specs.Entry.{Entry, number_of}
use Rattle.shared_words.specs.Shape.{IsRingSize}
use Rattle.shared_words.specs.Way.{Way, way_of}
use Rattle.shared_words.specs.Staging.{StagedHolds, InOrder}
use Rattle.shared_words.specs.LastEntries.{last_from, last_value, HasNumber, HasLength, LastEntries}
use Rattle.shared_words.specs.Constants.{Constants, IsLawful, InRange}
use Rattle.shared_words.proofs.WayLemmas.{get_apart, idx_not_number, idx_not_len, number_not_len, number_same, len_same, len_place_small, at_end, IsFarFrom, IsMoving}

-- The sizes

pub size_facts : (z : ℕ) → IsRingSize z → (2 ≤ z) × (z ≤ 32768) × (65536 % z ≡ 0)
size_facts z (k, low, high, is) = (
  subst (λ (y : ℕ). 2 ≤ y) (sym is) (pow_mono low),
  subst (λ (y : ℕ). y ≤ 32768) (sym is) (pow_mono high),
  subst (λ (y : ℕ). 65536 % y ≡ 0) (sym is)
      (ap (λ (y : ℕ). y % 2 ^ k) (ap (λ (n : ℕ). 2 ^ n) (let n : 16 ≡ (16 - k) + k = omega (arith, high) in n) ∙ pow-add 2 (16 - k) k) ∙ mul-mod_left (2 ^ (16 - k)) (2 ^ k)),
)

-- What is staged

pub idle_in_order : (role : Role) → InOrder role Idle
idle_in_order Driver = tt
idle_in_order Device = tt

pub both_in_order : (role : Role) (id len : ℕ) → InOrder role (BothStored id len)
both_in_order Driver id len = tt
both_in_order Device id len = tt

pub read_in_order : (role : Role) (id : ℕ) → InOrder role (NumberRead id)
read_in_order Driver id = tt
read_in_order Device id = tt

module _ (role : Role) (z width : ℕ) (words : List ℕ) (Held : ℕ → Type 0) (n i x : ℕ) where
  pub staged_stays : (st : Staged) → i ≢ (way_of role z).number (n % z) → ((id : ℕ) → Held id → i ≢ (way_of role z).len ((way_of role z).len_place n id)) → StagedHolds (way_of role z) z width words Held n st
      → StagedHolds (way_of role z) z width (set words i x) Held n st
  staged_stays Idle a b k = tt
  staged_stays (LengthStored id len) a b k = (k.0, get_apart words i ((way_of role z).len ((way_of role z).len_place n id)) x (b id k.0) ∙ k.1, k.2)
  staged_stays (NumberStored id) a b k = (k.0, get_apart words i ((way_of role z).number (n % z)) x a ∙ k.1)
  staged_stays (BothStored id len) a b k = (k.0, get_apart words i ((way_of role z).number (n % z)) x a ∙ k.1, get_apart words i ((way_of role z).len ((way_of role z).len_place n id)) x (b id k.0) ∙ k.2, k.3)
  staged_stays (NumberRead id) a b k = tt

-- The last entries

last-more : (belongs : ℕ → Entry → Bool) (value : Entry → ℕ) (d n : ℕ) (es : List Entry) (e : Entry) → last_from belongs value d n (es ++ e ∷ []) ≡ cond (belongs (n + length es) e) (value e) (last_from belongs value d n es)
last-more belongs value d n [] e = ap (λ (k : ℕ). cond (belongs k e) (value e) d) (let h : n ≡ n + 0 = omega arith in h)
last-more belongs value d n (y ∷ es) e = last-more belongs value (cond (belongs n y) (value y) d) (suc n) es e
    ∙ ap (λ (k : ℕ). cond (belongs k e) (value e) (last_from belongs value (cond (belongs n y) (value y) d) (suc n) es)) (let h : suc n + length es ≡ n + length (y ∷ es) = omega arith in h)

-- the word of the new entry, and any other
last_here : (belongs : ℕ → Entry → Bool) (value : Entry → ℕ) (es : List Entry) (e : Entry) (w a b : ℕ) → belongs (length es) e ≡ eqb a b → a ≡ b → w ≡ value e → w ≡ last_value belongs value (es ++ e ∷ [])
last_here belongs value es e w a b test same is = is ∙ sym (last-more belongs value 0 0 es e ∙ (ap (λ (k : ℕ). cond (belongs k e) (value e) (last_value belongs value es)) (let h : 0 + length es ≡ length es = omega arith in h)
    ∙ ap (λ (t : Bool). cond t (value e) (last_value belongs value es)) (test ∙ eq-eqb a b same)))

last_else : (belongs : ℕ → Entry → Bool) (value : Entry → ℕ) (es : List Entry) (e : Entry) (w a b : ℕ) → belongs (length es) e ≡ eqb a b → a ≢ b → w ≡ last_value belongs value es → w ≡ last_value belongs value (es ++ e ∷ [])
last_else belongs value es e w a b test ne is = is ∙ sym (last-more belongs value 0 0 es e ∙ (ap (λ (k : ℕ). cond (belongs k e) (value e) (last_value belongs value es)) (let h : 0 + length es ≡ length es = omega arith in h)
    ∙ ap (λ (t : Bool). cond t (value e) (last_value belongs value es)) (test ∙ ne_eqb a b ne)))

module _ (role : Role) (z : ℕ) (words : List ℕ) (written : List Entry) (st : Staged) (l : LastEntries (way_of role z) z words written st) where
  abbrev way : Way
  way = way_of role z

  abbrev m : ℕ
  m = length written

  pub last_far : (i x : ℕ) → IsFarFrom role z i → LastEntries (way_of role z) z (set words i x) written st
  last_far i x far = record {
    numbers = λ p low no. get_apart words i (way.number p) x (far.number p low) ∙ l.numbers p low no;
    lens = λ k low no. get_apart words i (way.len k) x (far.len k low) ∙ l.lens k low no;
  }

  -- nothing was stored, and nothing is staged in the words
  pub last_quiet : (st' : Staged) → (HasNumber st → ⊥) → ((id : ℕ) → HasLength st id → ⊥) → LastEntries (way_of role z) z words written st'
  last_quiet st' no_number no_length = record {
    numbers = λ p low no. l.numbers p low (λ h. absurd (no_number h));
    lens = λ k low no. l.lens k low (λ id h. absurd (no_length id h));
  }

  pub last_number_stored : (st' : Staged) (i x : ℕ) → 0 < z → i ≡ (way_of role z).number (length written % z) → HasNumber st' → ((id : ℕ) → HasLength st id → HasLength st' id) → LastEntries (way_of role z) z (set words i x) written st'
  last_number_stored st' i x pos at here same = record {
    numbers = λ p low no. get_apart words i (way.number p) x (λ e. no here (sym (number_same role z (m % z) p (sym at ∙ e)))) ∙ l.numbers p low (λ _. no here);
    lens = λ k low no. get_apart words i (way.len k) x (λ e. number_not_len role z (m % z) k low (sym at ∙ e)) ∙ l.lens k low (λ id h. no id (same id h));
  }

  pub last_length_stored : (st' : Staged) (i x id : ℕ) → id < z → i ≡ (way_of role z).len ((way_of role z).len_place (length written) id) → HasLength st' id → ((k : ℕ) → HasLength st k → ⊥) → (HasNumber st → HasNumber st') → LastEntries (way_of role z) z (set words i x) written st'
  last_length_stored st' i x id low at here none_yet same = record {
    numbers = λ p lp no. get_apart words i (way.number p) x (λ e. number_not_len role z p (way.len_place m id) (len_place_small role z m id low) (sym e ∙ at)) ∙ l.numbers p lp (λ h. no (same h));
    lens = λ k lk no. get_apart words i (way.len k) x (λ e. no id here (sym (len_same role z (way.len_place m id) k (sym at ∙ e)))) ∙ l.lens k lk (λ j h. absurd (none_yet j h));
  }

  -- idx is stored
  pub last_published : (new : ℕ) (e : Entry) → 0 < z → number_of e < z → st ≡ BothStored (number_of e) e.1
      → get_or words ((way_of role z).number (length written % z)) 0 ≡ number_of e → get_or words ((way_of role z).len ((way_of role z).len_place (length written) (number_of e))) 0 ≡ e.1
      → LastEntries (way_of role z) z (set words (way_of role z).idx new) (written ++ e ∷ []) Idle
  last_published new e pos low is number len = record {
    numbers = λ p lp _. get_apart words way.idx (way.number p) new (idx_not_number role z p) ∙ dite (ℕ_discrete (m % z) p)
        (λ same. last_here (λ n d. eqb (n % z) p) number_of written e (get_or words (way.number p) 0) (m % z) p refl same (subst (λ (q : ℕ). get_or words (way.number q) 0 ≡ number_of e) same number))
        (λ ne. last_else (λ n d. eqb (n % z) p) number_of written e (get_or words (way.number p) 0) (m % z) p refl ne (l.numbers p lp (λ _ q. ne (sym q))));
    lens = λ k lk _. get_apart words way.idx (way.len k) new (idx_not_len role z k lk) ∙ dite (ℕ_discrete (way.len_place m (number_of e)) k)
        (λ same. last_here (λ n d. eqb (way.len_place n (number_of d)) k) (λ d. d.1) written e (get_or words (way.len k) 0) (way.len_place m (number_of e)) k refl same (subst (λ (q : ℕ). get_or words (way.len q) 0 ≡ e.1) same len))
        (λ ne. last_else (λ n d. eqb (way.len_place n (number_of d)) k) (λ d. d.1) written e (get_or words (way.len k) 0) (way.len_place m (number_of e)) k refl ne
        (l.lens k lk (λ id h q. let h' : number_of e ≡ id = subst (λ (s : Staged). HasLength s id) is h in ne (ap (way.len_place m) h' ∙ sym q))));
  }

-- The ranges

get_at : (P : ℕ → Type 0) (words : List ℕ) (i j x : ℕ) → i < length words → P (get_or words j 0) → (i ≡ j → P x) → P (get_or (set words i x) j 0)
get_at P words i j x here old new = dite (ℕ_discrete i j)
    (λ e. subst P (sym (ap (λ (k : ℕ). get_or (set words i x) k 0) (sym e) ∙ get_or-set_same words i x 0 here)) (new e))
    (λ ne. subst P (sym (get_apart words i j x ne)) old)

module _ (role : Role) (key : Shape) (words : List ℕ) (written : List Entry) (g : InRange (way_of role key.size) key words written) where
  -- a store of this way
  pub range_stored : (i x : ℕ) → i < length words → ((p : ℕ) → p < key.size → i ≡ (way_of role key.size).number p → x < key.size) → ((k : ℕ) → k < key.size → i ≡ (way_of role key.size).len k → x ≤ key.length) → InRange (way_of role key.size) key (set words i x) written
  range_stored i x here number len = let way : Way = way_of role key.size in record {
    numbers = λ p low. get_at (λ (w : ℕ). w < key.size) words i (way.number p) x here (g.numbers p low) (number p low);
    lens = λ k low. get_at (λ (w : ℕ). w ≤ key.length) words i (way.len k) x here (g.lens k low) (len k low);
    entries = g.entries;
  }

  pub range_far : (i x : ℕ) → IsFarFrom role key.size i → InRange (way_of role key.size) key (set words i x) written
  range_far i x far = let way : Way = way_of role key.size in record {
    numbers = λ p low. subst (λ (w : ℕ). w < key.size) (sym (get_apart words i (way.number p) x (far.number p low))) (g.numbers p low);
    lens = λ k low. subst (λ (w : ℕ). w ≤ key.length) (sym (get_apart words i (way.len k) x (far.len k low))) (g.lens k low);
    entries = g.entries;
  }

  pub range_published : (e : Entry) → IsLawful key e → InRange (way_of role key.size) key words (written ++ e ∷ [])
  range_published e lawful = record {
    numbers = g.numbers;
    lens = g.lens;
    entries = λ n d at. ⊎_elim (λ (old : get_elem? written n ≡ some d). g.entries n d old) (λ (t : (n ≡ length written) × (e ≡ d)). subst (IsLawful key) t.1 lawful) (at_end written e n d at);
  }

pub constants_stay : (key : Shape) (words : List ℕ) (i x : ℕ) → IsMoving key.size i → Constants key words → Constants key (set words i x)
constants_stay key words i x m f = record {
  addr = λ k l. get_apart words i (4 * k) x (m.addr k l) ∙ f.addr k l;
  flags = λ k l. get_apart words i (4 * k + 2) x (m.flags k l) ∙ f.flags k l;
  next = λ k l. get_apart words i (4 * k + 3) x (m.next k l) ∙ f.next k l;
  avail_flags = get_apart words i (4 * key.size) x m.avail_flags ∙ f.avail_flags;
  used_flags = get_apart words i (5 * key.size + 2) x m.used_flags ∙ f.used_flags;
}
