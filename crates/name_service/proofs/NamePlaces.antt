-- What a search finds among names in rising order, and what an edit at that place does.
use Rattle.std.proofs.Common.{◌≡◌, ◌≢◌, ◌<◌, ◌≤◌, ◌∙◌, ℕ, zero, suc, List, [], ◌∷◌, length, take, drop, map, get_or, set, refl, sym, ap, subst, inl, inr, arith}
use Rattle.std.specs.Prelude.{find, option_map, None, Some, Result, Ok, Err, IfOk, IfErr}
use Rattle.std.specs.List.{insert, remove}
use Rattle.std.specs.List.Sorted.{IsSearchInRange, IsBinarySearchResult, IsNonDecreasingBy}
use Rattle.std.specs.Ordering.{nat_cmp, ordering_index}
use Rattle.std.proofs.Math.ListN.{get_or-map}
use Rattle.std.proofs.lemmas.Bool.{cases_lt}
use Rattle.std.proofs.lemmas.Bool.Decides.{nat_tests}
use Rattle.std.proofs.lemmas.Cmp.{ranked}
use Rattle.std.proofs.lemmas.List.{length-map, map-append, take-map, drop-map, map-set as map_of_set, length-set}
use Rattle.std.proofs.lemmas.List.Edits.{length-insert}
use Rattle.std.proofs.lemmas.List.Elements.{All-from_recursion, recursion_from_All}
use Rattle.mc_base.specs.declared.name.EndName.{EndName}
use Rattle.name_service.specs.declared.known.Known.{Known}
use Rattle.mc_base.specs.NameMap.{Names, IsRising, IsNameMap, HasBounds, names_limit, rank, has_name, learned, forgotten, address_in}
use Rattle.name_service.specs.InKnownNames.{IsPlace, IsGap, names_in, pair_of}
use Rattle.name_service.proofs.NameLists.{IsUnknown, find-unknown, forgotten-unknown, learned-here, learned-before, learned-after, unknown-above, map-learned, map-forgotten}

abbrev known_of : EndName × ℕ → Known
known_of k = record { name = k.0; addr = k.1 }

-- ---- what a search finds

ranks_rise : (ks : Names) → IsRising ks → (i j : ℕ) (d : EndName × ℕ) → i < j → j < length ks → rank (get_or ks i d).0 < rank (get_or ks j d).0
ranks_rise [] rising i j d before within = absurd (omega arith)
ranks_rise (k ∷ ks) rising i zero d before within = absurd (omega arith)
ranks_rise (k ∷ ks) rising zero (suc j) d before within = All-from_recursion (λ later. rank k.0 < rank later.0) ks rising.0 j d (omega arith)
ranks_rise (k ∷ ks) rising (suc i) (suc j) d before within = ranks_rise ks rising.1 i j d (omega arith) (omega arith)

-- the rank of a name in the list
rank-in : (xs : List Known) (i : ℕ) (d : Known) → rank (get_or (names_in xs) i (pair_of d)).0 ≡ rank (get_or xs i d).name
rank-in xs i d = ap (λ (k : EndName × ℕ). rank k.0) (get_or-map pair_of xs i d)

-- the comparisons with a name rise along the list, as a binary search asks
comparisons_rise : (xs : List Known) → IsRising (names_in xs) → (r : ℕ) → IsNonDecreasingBy (λ k. ordering_index (nat_cmp (rank k.name) r)) xs
comparisons_rise xs rising r i j d le within =
    let first = rank-in xs i d in
    let second = rank-in xs j d in
    let len : length (names_in xs) ≡ length xs = length-map xs pair_of in
    let rise : i < j → rank (get_or xs i d).name < rank (get_or xs j d).name = λ before. omega (arith, first, second, ranks_rise (names_in xs) rising i j (pair_of d) before (omega arith)) in
    grind (arith, nat_tests, rise, λ (same : i ≡ j). ap (λ m. rank (get_or xs m d).name) same)

pub searched : (xs : List Known) (n : EndName) (r : Result ℕ ℕ) → IsRising (names_in xs) → IsSearchInRange r (length xs) → IsBinarySearchResult (λ k. nat_cmp (rank k.name) (rank n)) xs r → IfOk r (IsPlace (names_in xs) n) × IfErr r (IsGap (names_in xs) n)
searched xs n (Ok place) rising within equal = (
  record {
    within = rw (length-map xs pair_of) within;
    named = λ d. rank-in xs place (known_of d) ∙ ranked _ (rank n) _ (sym (equal (known_of d)));
  },
  tt,
)
searched xs n (Err place) rising within parted =
    let parts = parted (comparisons_rise xs rising (rank n)) in
    let len : length (names_in xs) ≡ length xs = length-map xs pair_of in (
      tt,
      record {
        within = rw len within;
        before = λ k d low high. let less = ranked _ (rank n) _ (sym (parts.0 k (known_of d) low high)) in omega (arith, rank-in xs k (known_of d), less);
        after = λ k d low high. let greater = ranked _ (rank n) _ (sym (parts.1 k (known_of d) low (omega arith))) in omega (arith, rank-in xs k (known_of d), greater);
      },
    )

-- ---- at the place of a name

place-later : (k : EndName × ℕ) (ks : Names) (n : EndName) (i : ℕ) → IsPlace (k ∷ ks) n (suc i) → IsPlace ks n i
place-later k ks n i place = record { within = omega (arith, place.within); named = place.named }

-- the names before it have lower ranks
lower_before : (k : EndName × ℕ) (ks : Names) (n : EndName) (i : ℕ) → IsRising (k ∷ ks) → IsPlace (k ∷ ks) n (suc i) → rank k.0 < rank n
lower_before k ks n i rising place =
    let lower = All-from_recursion (λ later. rank k.0 < rank later.0) ks rising.0 i k (omega (arith, place.within)) in
    omega (arith, lower, place.named k)

pub learned-place : (n : EndName) (a : ℕ) (ks : Names) (i : ℕ) → IsRising ks → IsPlace ks n i → learned n a ks ≡ set ks i (n, a)
learned-place n a [] i rising place = absurd (omega (arith, place.within))
learned-place n a (k ∷ ks) zero rising place = learned-here n a k ks (place.named k)
learned-place n a (k ∷ ks) (suc i) rising place =
    learned-after n a k ks (lower_before k ks n i rising place)
    ∙ ap (λ (rest : Names). k ∷ rest) (learned-place n a ks i rising.1 (place-later k ks n i place))

pub forgotten-place : (n : EndName) (ks : Names) (i : ℕ) → IsRising ks → IsPlace ks n i → forgotten n ks ≡ remove ks i
forgotten-place n [] i rising place = absurd (omega (arith, place.within))
forgotten-place n (k ∷ ks) zero rising place =
    let same : rank k.0 ≡ rank n = place.named k in
    let rest = forgotten-unknown n ks (unknown-above n (rank k.0) ks (omega arith) rising.0) in
    grind (arith, nat_tests, rest)
forgotten-place n (k ∷ ks) (suc i) rising place =
    let lower = lower_before k ks n i rising place in
    let rest = forgotten-place n ks i rising.1 (place-later k ks n i place) in
    grind (arith, nat_tests, rest)

find-place : (n : EndName) (ks : Names) (i : ℕ) (d : EndName × ℕ) → IsRising ks → IsPlace ks n i → find (has_name n) ks ≡ Some (get_or ks i d)
find-place n [] i d rising place = absurd (omega (arith, place.within))
find-place n (k ∷ ks) zero d rising place =
    let same : rank k.0 ≡ rank n = place.named k in
    grind (arith, nat_tests)
find-place n (k ∷ ks) (suc i) d rising place =
    let lower = lower_before k ks n i rising place in
    let rest = find-place n ks i d rising.1 (place-later k ks n i place) in
    grind (arith, nat_tests, rest)

pub address-place : (n : EndName) (xs : List Known) (i : ℕ) (d : Known) → IsRising (names_in xs) → IsPlace (names_in xs) n i → address_in n (names_in xs) ≡ Some (get_or xs i d).addr
address-place n xs i d rising place =
    ap (option_map (λ (k : EndName × ℕ). k.1)) (find-place n (names_in xs) i (pair_of d) rising place)
    ∙ ap (λ (k : EndName × ℕ). Some k.1) (get_or-map pair_of xs i d)

-- ---- at the gap for a name

gap-later : (k : EndName × ℕ) (ks : Names) (n : EndName) (i : ℕ) → IsGap (k ∷ ks) n (suc i) → IsGap ks n i
gap-later k ks n i gap = record {
  within = omega (arith, gap.within);
  before = λ j d low high. gap.before (suc j) d (omega arith) (omega arith);
  after = λ j d low high. gap.after (suc j) d (omega arith) (omega arith);
}

pub unknown-gap : (n : EndName) (ks : Names) (i : ℕ) → IsGap ks n i → IsUnknown n ks
unknown-gap n ks i gap = recursion_from_All (λ k. rank k.0 ≢ rank n) ks (λ j d within. elim (cases_lt j i) [
  | inl below ↦ λ same. omega (arith, gap.before j d (omega arith) below)
  | inr least ↦ λ same. omega (arith, gap.after j d least within)
])

pub address-gap : (n : EndName) (ks : Names) (i : ℕ) → IsGap ks n i → address_in n ks ≡ None
address-gap n ks i gap = ap (option_map (λ (k : EndName × ℕ). k.1)) (find-unknown n ks (unknown-gap n ks i gap))

pub forgotten-gap : (n : EndName) (ks : Names) (i : ℕ) → IsGap ks n i → forgotten n ks ≡ ks
forgotten-gap n ks i gap = forgotten-unknown n ks (unknown-gap n ks i gap)

pub learned-gap : (n : EndName) (a : ℕ) (ks : Names) (i : ℕ) → IsGap ks n i → learned n a ks ≡ insert ks i (n, a)
learned-gap n a [] zero gap = refl
learned-gap n a [] (suc i) gap = absurd (omega (arith, gap.within))
learned-gap n a (k ∷ ks) zero gap = learned-before n a k ks (gap.after 0 k (omega arith) (omega arith))
learned-gap n a (k ∷ ks) (suc i) gap =
    learned-after n a k ks (gap.before 0 k (omega arith) (omega arith))
    ∙ ap (λ (rest : Names). k ∷ rest) (learned-gap n a ks i (gap-later k ks n i gap))

-- ---- the edits of the list

pub names-set : (xs : List Known) (i : ℕ) (k : Known) → names_in (set xs i k) ≡ set (names_in xs) i (pair_of k)
names-set xs i k = map_of_set pair_of xs i k

pub names-insert : (xs : List Known) (i : ℕ) (k : Known) → names_in (insert xs i k) ≡ insert (names_in xs) i (pair_of k)
names-insert xs i k = map-append pair_of (take i xs) (k ∷ drop i xs) ∙ rw (take-map, drop-map) refl

pub names-remove : (xs : List Known) (i : ℕ) → names_in (remove xs i) ≡ remove (names_in xs) i
names-remove xs i = map-append pair_of (take i xs) (drop (suc i) xs) ∙ rw (take-map, drop-map) refl

-- a write to the place of a name learns it, and so does an insert at its gap
pub set-is-learned : (n : EndName) (a : ℕ) (xs : List Known) (i : ℕ) → IsNameMap (names_in xs) → IsPlace (names_in xs) n i → names_in (set xs i (known_of (n, a))) ≡ learned n a (names_in xs)
set-is-learned n a xs i map place = names-set xs i (known_of (n, a)) ∙ sym (learned-place n a (names_in xs) i map.rising place)

pub insert-is-learned : (n : EndName) (a : ℕ) (xs : List Known) (i : ℕ) → IsGap (names_in xs) n i → names_in (insert xs i (known_of (n, a))) ≡ learned n a (names_in xs)
insert-is-learned n a xs i gap = names-insert xs i (known_of (n, a)) ∙ sym (learned-gap n a (names_in xs) i gap)

-- a removal at its place forgets it
pub remove-is-forgotten : (n : EndName) (xs : List Known) (i : ℕ) → IsNameMap (names_in xs) → IsPlace (names_in xs) n i → names_in (remove xs i) ≡ forgotten n (names_in xs)
remove-is-forgotten n xs i map place = names-remove xs i ∙ sym (forgotten-place n (names_in xs) i map.rising place)

-- the map stays one
pub map-set : (n : EndName) (a : ℕ) (xs : List Known) (i : ℕ) → HasBounds n → IsNameMap (names_in xs) → IsPlace (names_in xs) n i → IsNameMap (names_in (set xs i (known_of (n, a))))
map-set n a xs i fits map place =
    let ks = names_in xs in
    let is = learned-place n a ks i map.rising place in
    let few : length (learned n a ks) ≤ names_limit = omega (arith, ap (λ (l : Names). length l) is, length-set ks i (n, a), map.few) in
    subst IsNameMap (sym (set-is-learned n a xs i map place)) (map-learned n a ks fits map few)

pub map-insert : (n : EndName) (a : ℕ) (xs : List Known) (i : ℕ) → HasBounds n → IsNameMap (names_in xs) → IsGap (names_in xs) n i → length xs < names_limit → IsNameMap (names_in (insert xs i (known_of (n, a))))
map-insert n a xs i fits map gap room =
    let ks = names_in xs in
    let is = learned-gap n a ks i gap in
    let few : length (learned n a ks) ≤ names_limit = omega (arith, ap (λ (l : Names). length l) is, length-insert ks i (n, a) gap.within, length-map xs pair_of) in
    subst IsNameMap (sym (insert-is-learned n a xs i gap)) (map-learned n a ks fits map few)

pub map-remove : (n : EndName) (xs : List Known) (i : ℕ) → IsNameMap (names_in xs) → IsPlace (names_in xs) n i → IsNameMap (names_in (remove xs i))
map-remove n xs i map place = subst IsNameMap (sym (remove-is-forgotten n xs i map place)) (map-forgotten n (names_in xs) map)
