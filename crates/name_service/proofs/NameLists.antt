-- The names that are known, as a finite map.
use Rattle.std.proofs.Common.{◌≡◌, ◌≢◌, ◌⊎◌, ◌<◌, ◌≤◌, ◌∙◌, ℕ, Bool, true, false, not, [], ◌∷◌, length, eqb, cond, refl, sym, ap, subst, inl, inr, arith}
use Rattle.std.specs.Prelude.{find, filter, option_map, None, Some}
use Rattle.std.specs.List.{AllByRecursion}
use Rattle.std.proofs.lemmas.Bool.{cases_lt}
use Rattle.std.proofs.lemmas.Bool.Decides.{nat_tests}
use Rattle.mc_base.specs.declared.name.EndName.{EndName}
use Rattle.mc_base.specs.NameMap.{Names, HasBounds, IsRising, IsNameMap, names_limit, rank, has_name, learned, forgotten, address_in}
use Rattle.name_service.specs.NameLaws.{RankTellsNames, AddressOfTheVeryName, LearnedHasItsAddress, LearnedLeavesOthers, ForgottenHasNone, ForgottenLeavesOthers, LearnedCounts, ForgottenCounts, OrderStays, OneListForEachMap, is_same}

-- ---- names

abbrev named : ℕ → ℕ → ℕ → EndName
named domain node port = record { domain = domain; node = node; port = port }

pub rank_tells_names : RankTellsNames
unfolding rank
rank_tells_names n m fits_n fits_m same =
    let domain : n.domain ≡ m.domain = omega (arith, fits_n.node, fits_n.port, fits_m.node, fits_m.port) in
    let node : n.node ≡ m.node = omega (arith, fits_n.node, fits_n.port, fits_m.node, fits_m.port) in
    let port : n.port ≡ m.port = omega (arith, fits_n.node, fits_n.port, fits_m.node, fits_m.port) in
    ap (λ d. named d n.node n.port) domain ∙ ap (λ o. named m.domain o n.port) node ∙ ap (λ p. named m.domain m.node p) port

-- a name is told by its rank
same_rank_is_same : (n m : EndName) → HasBounds n → HasBounds m → eqb (rank m) (rank n) ≡ is_same n m
unfolding rank
same_rank_is_same n m fits_n fits_m = grind (arith, nat_tests, fits_n.node, fits_n.port, fits_m.node, fits_m.port)

find-very_name : (n : EndName) (ks : Names) → HasBounds n → AllByRecursion (λ k. HasBounds k.0) ks → find (has_name n) ks ≡ find (λ k. is_same n k.0) ks
find-very_name n [] fits bounded = refl
find-very_name n (k ∷ ks) fits bounded = rw (same_rank_is_same n k.0 fits bounded.0, find-very_name n ks fits bounded.1) refl

pub address_of_the_very_name : AddressOfTheVeryName
address_of_the_very_name n ks fits map = ap (option_map (λ (k : EndName × ℕ). k.1)) (find-very_name n ks fits map.bounded)

-- ---- where a name stands among two

trichotomy : (x y : ℕ) → (x ≡ y) ⊎ ((x < y) ⊎ (y < x))
trichotomy x y = elim (cases_lt x y) [
  | inl below ↦ inr (inl below)
  | inr least ↦ elim (cases_lt y x) [ inl above ↦ inr (inr above) | inr most ↦ inl (omega arith) ]
]

pub learned-here : (n : EndName) (a : ℕ) (k : EndName × ℕ) (ks : Names) → rank k.0 ≡ rank n → learned n a (k ∷ ks) ≡ (n, a) ∷ ks
learned-here n a k ks same = grind (arith, nat_tests)

pub learned-before : (n : EndName) (a : ℕ) (k : EndName × ℕ) (ks : Names) → rank n < rank k.0 → learned n a (k ∷ ks) ≡ (n, a) ∷ k ∷ ks
learned-before n a k ks before = grind (arith, nat_tests)

pub learned-after : (n : EndName) (a : ℕ) (k : EndName × ℕ) (ks : Names) → rank k.0 < rank n → learned n a (k ∷ ks) ≡ k ∷ learned n a ks
learned-after n a k ks after = grind (arith, nat_tests)

-- ---- learned

pub learned_has_its_address : LearnedHasItsAddress
learned_has_its_address n a [] = grind (arith, nat_tests)
learned_has_its_address n a (k ∷ ks) = grind (arith, nat_tests, learned_has_its_address n a ks)

pub learned_leaves_others : LearnedLeavesOthers
learned_leaves_others n m a [] differ = grind (arith, nat_tests)
learned_leaves_others n m a (k ∷ ks) differ = grind (arith, nat_tests, learned_leaves_others n m a ks differ)

-- ---- forgotten

pub forgotten_has_none : ForgottenHasNone
forgotten_has_none n [] = refl
forgotten_has_none n (k ∷ ks) = grind (arith, nat_tests, forgotten_has_none n ks)

pub forgotten_leaves_others : ForgottenLeavesOthers
forgotten_leaves_others n m [] differ = refl
forgotten_leaves_others n m (k ∷ ks) differ = grind (arith, nat_tests, forgotten_leaves_others n m ks differ)

-- ---- a name that is not known

abbrev pub IsUnknown : EndName → Names → Type 0
IsUnknown n ks = AllByRecursion (λ k. rank k.0 ≢ rank n) ks

pub find-unknown : (n : EndName) (ks : Names) → IsUnknown n ks → find (has_name n) ks ≡ None
find-unknown n [] unknown = refl
find-unknown n (k ∷ ks) unknown = grind (arith, nat_tests, unknown.0, find-unknown n ks unknown.1)

pub forgotten-unknown : (n : EndName) (ks : Names) → IsUnknown n ks → forgotten n ks ≡ ks
forgotten-unknown n [] unknown = refl
forgotten-unknown n (k ∷ ks) unknown = grind (arith, nat_tests, unknown.0, forgotten-unknown n ks unknown.1)

-- a name is none of those that come after one of its rank or more
pub unknown-above : (n : EndName) (r : ℕ) (ks : Names) → rank n ≤ r → AllByRecursion (λ later. r < rank later.0) ks → IsUnknown n ks
unknown-above n r [] most all = tt
unknown-above n r (k ∷ ks) most all = ((λ same. omega (arith, all.0)), unknown-above n r ks most all.1)

-- ---- how many

pub learned_counts : LearnedCounts
learned_counts n a [] rising = grind (arith, nat_tests)
learned_counts n a (k ∷ ks) rising =
    let below : rank n < rank k.0 → find (has_name n) ks ≡ None = λ before. find-unknown n ks (unknown-above n (rank k.0) ks (omega arith) rising.0) in
    grind (arith, nat_tests, learned_counts n a ks rising.1, below)

pub forgotten_counts : ForgottenCounts
forgotten_counts n [] rising = refl
forgotten_counts n (k ∷ ks) rising =
    let here : rank k.0 ≡ rank n → forgotten n ks ≡ ks = λ same. forgotten-unknown n ks (unknown-above n (rank k.0) ks (omega arith) rising.0) in
    grind (arith, nat_tests, forgotten_counts n ks rising.1, here)

-- ---- order

pub all-learned : (P : EndName × ℕ → Type 0) (n : EndName) (a : ℕ) (ks : Names) → P (n, a) → AllByRecursion P ks → AllByRecursion P (learned n a ks)
all-learned P n a [] new all = (new, tt)
all-learned P n a (k ∷ ks) new all = elim (trichotomy (rank k.0) (rank n)) [
  | inl same ↦ subst (AllByRecursion P) (sym (learned-here n a k ks same)) (new, all.1)
  | inr (inl after) ↦ subst (AllByRecursion P) (sym (learned-after n a k ks after)) (all.0, all-learned P n a ks new all.1)
  | inr (inr before) ↦ subst (AllByRecursion P) (sym (learned-before n a k ks before)) (new, all)
]

pub all-filter : (P : EndName × ℕ → Type 0) (keeps : EndName × ℕ → Bool) (ks : Names) → AllByRecursion P ks → AllByRecursion P (filter keeps ks)
all-filter P keeps [] all = tt
all-filter P keeps (k ∷ ks) all =
    elim (keeps k) as (λ b. AllByRecursion P (cond b (k ∷ filter keeps ks) (filter keeps ks)))
    [ true ↦ (all.0, all-filter P keeps ks all.1) | false ↦ all-filter P keeps ks all.1 ]

above : (r s : ℕ) (ks : Names) → r ≤ s → AllByRecursion (λ later. s < rank later.0) ks → AllByRecursion (λ later. r < rank later.0) ks
above r s [] most all = tt
above r s (k ∷ ks) most all = (omega (arith, all.0), above r s ks most all.1)

pub rising-learned : (n : EndName) (a : ℕ) (ks : Names) → IsRising ks → IsRising (learned n a ks)
rising-learned n a [] rising = (tt, tt)
rising-learned n a (k ∷ ks) rising = elim (trichotomy (rank k.0) (rank n)) [
  | inl same ↦ subst IsRising (sym (learned-here n a k ks same)) (above (rank n) (rank k.0) ks (omega arith) rising.0, rising.1)
  | inr (inl after) ↦ subst IsRising (sym (learned-after n a k ks after)) (all-learned (λ later. rank k.0 < rank later.0) n a ks after rising.0, rising-learned n a ks rising.1)
  | inr (inr before) ↦ subst IsRising (sym (learned-before n a k ks before)) ((before, above (rank n) (rank k.0) ks (omega arith) rising.0), rising)
]

pub rising-filter : (keeps : EndName × ℕ → Bool) (ks : Names) → IsRising ks → IsRising (filter keeps ks)
rising-filter keeps [] rising = tt
rising-filter keeps (k ∷ ks) rising =
    elim (keeps k) as (λ b. IsRising (cond b (k ∷ filter keeps ks) (filter keeps ks)))
    [ true ↦ (all-filter (λ later. rank k.0 < rank later.0) keeps ks rising.0, rising-filter keeps ks rising.1) | false ↦ rising-filter keeps ks rising.1 ]

pub order_stays : OrderStays
order_stays n a ks rising = (rising-learned n a ks rising, rising-filter (λ k. not (has_name n k)) ks rising)

-- ---- a map stays a map

pub map-learned : (n : EndName) (a : ℕ) (ks : Names) → HasBounds n → IsNameMap ks → length (learned n a ks) ≤ names_limit → IsNameMap (learned n a ks)
map-learned n a ks fits map few = record {
  rising = rising-learned n a ks map.rising;
  bounded = all-learned (λ k. HasBounds k.0) n a ks fits map.bounded;
  few = few;
}

pub map-forgotten : (n : EndName) (ks : Names) → IsNameMap ks → IsNameMap (forgotten n ks)
map-forgotten n ks map = record {
  rising = rising-filter (λ k. not (has_name n k)) ks map.rising;
  bounded = all-filter (λ k. HasBounds k.0) (λ k. not (has_name n k)) ks map.bounded;
  few = let counts = forgotten_counts n ks map.rising in omega (arith, counts, map.few);
}

-- ---- one list for each map

-- a name below the first, or the first itself, is not among the later ones
unknown-later : (n : EndName) (k : EndName × ℕ) (ks : Names) → IsRising (k ∷ ks) → rank n ≤ rank k.0 → find (has_name n) ks ≡ None
unknown-later n k ks rising least = find-unknown n ks (unknown-above n (rank k.0) ks least rising.0)

address-first : (n : EndName) (k : EndName × ℕ) (ks : Names) → rank k.0 ≡ rank n → address_in n (k ∷ ks) ≡ Some k.1
address-first n k ks same = grind (arith, nat_tests)

address-later : (n : EndName) (k : EndName × ℕ) (ks : Names) → rank k.0 ≢ rank n → address_in n (k ∷ ks) ≡ address_in n ks
address-later n k ks differ = grind (arith, nat_tests)

-- a name below all is not known
address-below : (n : EndName) (k : EndName × ℕ) (ks : Names) → IsRising (k ∷ ks) → rank n < rank k.0 → address_in n (k ∷ ks) ≡ None
address-below n k ks rising below =
    address-later n k ks (λ same. omega arith)
    ∙ ap (option_map (λ (k : EndName × ℕ). k.1)) (unknown-later n k ks rising (omega arith))

abbrev SameAddresses : Names → Names → Type 0
SameAddresses ks ls = (n : EndName) → HasBounds n → address_in n ks ≡ address_in n ls

abbrev AllHaveBounds : Names → Type 0
AllHaveBounds ks = AllByRecursion (λ k. HasBounds k.0) ks

-- behind a first name that both lists have, the later ones tell the same
same_later : (k l : EndName × ℕ) (ks ls : Names) → IsRising (k ∷ ks) → IsRising (l ∷ ls) → rank k.0 ≡ rank l.0 → SameAddresses (k ∷ ks) (l ∷ ls) → SameAddresses ks ls
same_later k l ks ls rising_k rising_l same agree n fits = elim (trichotomy (rank k.0) (rank n)) [
  | inl here ↦
      ap (option_map (λ (k : EndName × ℕ). k.1)) (unknown-later n k ks rising_k (omega arith) ∙ sym (unknown-later n l ls rising_l (omega arith)))
  | inr differs ↦
      let other : rank k.0 ≢ rank n = λ here. elim differs [ inl below ↦ omega arith | inr above ↦ omega arith ] in
      let another : rank l.0 ≢ rank n = λ here. other (same ∙ here) in
      sym (address-later n k ks other) ∙ agree n fits ∙ address-later n l ls another
]

one_list : (ks ls : Names) → IsRising ks → IsRising ls → AllHaveBounds ks → AllHaveBounds ls → SameAddresses ks ls → ks ≡ ls
one_list [] [] rising_k rising_l fits_k fits_l agree = refl
one_list [] (l ∷ ls) rising_k rising_l fits_k fits_l agree =
    let known = address-first l.0 l ls refl in
    let agrees = agree l.0 fits_l.0 in
    absurd (cc (known, agrees))
one_list (k ∷ ks) [] rising_k rising_l fits_k fits_l agree =
    let known = address-first k.0 k ks refl in
    let agrees = agree k.0 fits_k.0 in
    absurd (cc (known, agrees))
one_list (k ∷ ks) (l ∷ ls) rising_k rising_l fits_k fits_l agree = elim (trichotomy (rank k.0) (rank l.0)) [
  | inl same ↦
      let name : k.0 ≡ l.0 = rank_tells_names k.0 l.0 fits_k.0 fits_l.0 same in
      let addr : Some k.1 ≡ Some l.1 = sym (address-first k.0 k ks refl) ∙ agree k.0 fits_k.0 ∙ address-first k.0 l ls (sym same) in
      let rest : ks ≡ ls = one_list ks ls rising_k.1 rising_l.1 fits_k.1 fits_l.1 (same_later k l ks ls rising_k rising_l same agree) in
      let number : k.1 ≡ l.1 = cc in
      ap (λ (n : EndName). (n, k.1) ∷ ks) name ∙ ap (λ (a : ℕ). (l.0, a) ∷ ks) number ∙ ap (λ (later : Names). l ∷ later) rest
  | inr (inl below) ↦
      let known = address-first k.0 k ks refl in
      let unknown = address-below k.0 l ls rising_l below in
      let agrees = agree k.0 fits_k.0 in
      absurd (cc (known, unknown, agrees))
  | inr (inr above) ↦
      let known = address-first l.0 l ls refl in
      let unknown = address-below l.0 k ks rising_k above in
      let agrees = agree l.0 fits_l.0 in
      absurd (cc (known, unknown, agrees))
]

pub one_list_for_each_map : OneListForEachMap
one_list_for_each_map ks ls map_k map_l agree = one_list ks ls map_k.rising map_l.rising map_k.bounded map_l.bounded agree
