-- Sets of labels with their domains.
use Rattle.std.proofs.Common.{◌≡◌, ℕ, Bool, true, false, ◌&&◌, ◌||◌, List, [], ◌∷◌, refl, sym, ap, ◌∙◌, Bor, Ordering, Less, Equal, Greater, ◌⊎◌, inl, inr, arith}
use Rattle.std.specs.Prelude.{◌==◌, nat_lt}
use Rattle.std.specs.List.{list_any}
use Rattle.std.specs.Ordering.{nat_cmp, is_eq, ordering_then}
use Rattle.std.specs.Cmp.Lexicographic.{slice_cmp}
use Rattle.std.specs.Str.{bytes_eq}
use Rattle.std.specs.BTreeSet.{insert_key}
use Rattle.std.proofs.lemmas.Bool.Decides.{nat_tests}
use Rattle.std.proofs.lemmas.Map.Text.{is_eq-slice_cmp}
use Rattle.std.proofs.lemmas.Map.Lookups.{exact_bytes, exact_pairs, exact_unsigned}
use Rattle.scenario_lang.specs.Telling.{has_label}
use Rattle.scenario_lang.proofs.Options.{cases_bool}

-- the order of labels with their domains
abbrev pub label_cmp : ℕ × Bor (List ℕ) → ℕ × Bor (List ℕ) → Ordering
label_cmp x y = ordering_then (nat_cmp x.0 y.0) (slice_cmp nat_cmp x.1.now y.1.now)

cases_order : (o : Ordering) → (o ≡ Less) ⊎ ((o ≡ Equal) ⊎ (o ≡ Greater))
cases_order Less = inl refl
cases_order Equal = inr (inl refl)
cases_order Greater = inr (inr refl)

is_eq-then : (a b : Ordering) → is_eq (ordering_then a b) ≡ (is_eq a && is_eq b)
is_eq-then Less b = refl
is_eq-then Equal b = refl
is_eq-then Greater b = refl

is_eq-nat_cmp : (a b : ℕ) → is_eq (nat_cmp a b) ≡ (a == b)
is_eq-nat_cmp a b = elim (cases_bool (nat_lt a b)) [
  | inl less ↦ let apart : (a == b) ≡ false = grind (arith, nat_tests) in rw (less, apart) refl
  | inr more ↦ elim (cases_bool (a == b)) [
    | inl same ↦ rw (more, same) refl
    | inr apart ↦ rw (more, apart) refl
  ]
]

pub same_either : (a b : ℕ) → (a == b) ≡ (b == a)
same_either a b = elim (cases_bool (a == b)) [
  | inl same ↦
      let is : a ≡ b = grind (arith, nat_tests) in
      ap (λ (x : ℕ). x == b) is ∙ ap (λ (x : ℕ). b == x) (sym is)
  | inr apart ↦
      let other : (b == a) ≡ false = grind (arith, nat_tests) in
      apart ∙ sym other
]

key_is : (d : ℕ) (label : List ℕ) (k : ℕ × Bor (List ℕ)) → is_eq (ordering_then (nat_cmp d k.0) (slice_cmp nat_cmp label k.1.now)) ≡ ((k.0 == d) && bytes_eq label k.1.now)
key_is d label k =
    is_eq-then (nat_cmp d k.0) (slice_cmp nat_cmp label k.1.now)
    ∙ ap (λ (t : Bool). t && is_eq (slice_cmp nat_cmp label k.1.now)) (is_eq-nat_cmp d k.0 ∙ same_either d k.0)
    ∙ ap (λ (t : Bool). (k.0 == d) && t) (is_eq-slice_cmp label k.1.now)

pub set_has : (keys : List (ℕ × Bor (List ℕ))) (d : ℕ) (label : List ℕ) → list_any (λ (k : ℕ × Bor (List ℕ)). is_eq (ordering_then (nat_cmp d k.0) (slice_cmp nat_cmp label k.1.now))) keys ≡ has_label keys d label
set_has [] d label = refl
set_has (k ∷ ks) d label = rw (key_is d label k, set_has ks d label) refl

or_assoc : (a b c : Bool) → ((a || b) || c) ≡ (a || (b || c))
or_assoc true b c = refl
or_assoc false b c = refl

or_comm : (a b : Bool) → (a || b) ≡ (b || a)
or_comm true true = refl
or_comm true false = refl
or_comm false true = refl
or_comm false false = refl

twice : (a b : Bool) → (a || b) ≡ ((a || b) || a)
twice true b = refl
twice false true = refl
twice false false = refl

abbrev pub is_key : ℕ → List ℕ → ℕ × Bor (List ℕ) → Bool
is_key d label k = (k.0 == d) && bytes_eq label k.1.now

-- keys that compare alike are the same label of the same domain
equal_keys : (d : ℕ) (label : List ℕ) (x y : ℕ × Bor (List ℕ)) → label_cmp x y ≡ Equal → is_key d label x ≡ is_key d label y
equal_keys d label x y equal =
    let both : ◌≡◌ {A = ℕ × List ℕ} (x.0, x.1.now) (y.0, y.1.now) = exact_pairs nat_cmp (slice_cmp nat_cmp) exact_unsigned exact_bytes (x.0, x.1.now) (y.0, y.1.now) equal in
    ap (λ (p : ℕ × List ℕ). (p.0 == d) && bytes_eq label p.1) both

-- the keys with one more are those that there were, and the one
set_with : (keys : List (ℕ × Bor (List ℕ))) (key : ℕ × Bor (List ℕ)) (d : ℕ) (label : List ℕ) → has_label (insert_key label_cmp keys key) d label ≡ (has_label keys d label || is_key d label key)
set_with [] key d label = or_comm (is_key d label key) false
set_with (k ∷ ks) key d label = elim (cases_order (label_cmp key k)) [
  | inl less ↦ rw less (or_comm (is_key d label key) (has_label (k ∷ ks) d label))
  | inr (inl equal) ↦ rw (equal, equal_keys d label key k equal) (twice (is_key d label k) (has_label ks d label))
  | inr (inr greater) ↦ rw greater (ap (λ (t : Bool). is_key d label k || t) (set_with ks key d label) ∙ sym (or_assoc (is_key d label k) (has_label ks d label) (is_key d label key)))
]

pub told_with : (keys grown : List (ℕ × Bor (List ℕ))) (key : ℕ × Bor (List ℕ)) → grown ≡ insert_key label_cmp keys key → (d : ℕ) (label : List ℕ) → has_label grown d label ≡ (has_label keys d label || is_key d label key)
told_with keys grown key is d label = ap (λ (ks : List (ℕ × Bor (List ℕ))). has_label ks d label) is ∙ set_with keys key d label
