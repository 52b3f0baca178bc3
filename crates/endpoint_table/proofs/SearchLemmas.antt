-- What a search among records in rising order finds.
use Rattle.std.proofs.Common.{◌≡◌, ◌≢◌, ◌<◌, ◌∙◌, ℕ, zero, suc, Bool, true, false, ◌&&◌, List, [], ◌∷◌, length, get_or, cond, refl, sym, ap, subst, inl, inr, arith}
use Rattle.std.specs.Prelude.{find, None, Some, Result, Ok, Err, IfOk, IfErr, ◌==◌}
use Rattle.std.specs.List.{AllByRecursion}
use Rattle.std.specs.List.Sorted.{IsSearchInRange, IsBinarySearchResult, IsNonDecreasingBy}
use Rattle.std.specs.Ordering.{nat_cmp, ordering_index}
use Rattle.std.proofs.lemmas.Bool.{cases_lt, eq-eqb, ne_eqb, and_right}
use Rattle.std.proofs.lemmas.Bool.Decides.{nat_tests}
use Rattle.std.proofs.lemmas.Cmp.{ranked}
use Rattle.std.proofs.lemmas.List.Elements.{All-from_recursion, recursion_from_All}
use Rattle.endpoint_table.specs.declared.record.Record.{Record}
use Rattle.endpoint_table.specs.Table.{has_live_address}
use Rattle.endpoint_table.specs.InTable.{IsRising, IsPlace}

addresses-rise : (rs : List Record) → IsRising rs → (i j : ℕ) (d : Record) → i < j → j < length rs → (get_or rs i d).address < (get_or rs j d).address
addresses-rise [] rising i j d before within = absurd (omega arith)
addresses-rise (r ∷ rs) rising i zero d before within = absurd (omega arith)
addresses-rise (r ∷ rs) rising zero (suc j) d before within = All-from_recursion (λ later. r.address < later.address) rs rising.0 j d (omega arith)
addresses-rise (r ∷ rs) rising (suc i) (suc j) d before within = addresses-rise rs rising.1 i j d (omega arith) (omega arith)

-- the comparisons with an address rise along the list, as a binary search asks
comparisons-rise : (rs : List Record) → IsRising rs → (a : ℕ) → IsNonDecreasingBy (λ r. ordering_index (nat_cmp r.address a)) rs
comparisons-rise rs rising a i j d le within =
    let rise : i < j → (get_or rs i d).address < (get_or rs j d).address = λ before. addresses-rise rs rising i j d before within in
    grind (arith, nat_tests, rise, λ (same : i ≡ j). ap (λ m. (get_or rs m d).address) same)

pub searched : (rs : List Record) (a : ℕ) (r : Result ℕ ℕ) → IsRising rs → IsSearchInRange r (length rs) → IsBinarySearchResult (λ r. nat_cmp r.address a) rs r → IfOk r (IsPlace rs a) × IfErr r (λ _. AllByRecursion (λ r. r.address ≢ a) rs)
searched rs a (Ok place) rising within equal = (record { within = within; addressed = λ d. ranked _ a _ (sym (equal d)) }, tt)
searched rs a (Err place) rising within parted =
    let parts = parted (comparisons-rise rs rising a) in (
      tt,
      recursion_from_All (λ r. r.address ≢ a) rs (λ k d inside. elim (cases_lt k place) [
        | inl below ↦ λ same. let less = ranked _ a _ (sym (parts.0 k d (omega arith) below)) in omega arith
        | inr least ↦ λ same. let greater = ranked _ a _ (sym (parts.1 k d least inside)) in omega arith
      ]),
    )

-- a live endpoint of the address is found where there is one
pub find-absent : (a : ℕ) (rs : List Record) → AllByRecursion (λ r. r.address ≢ a) rs → find (has_live_address a) rs ≡ None
find-absent a [] absent = refl
find-absent a (r ∷ rs) absent =
    ap (λ b. cond b (Some r) (find (has_live_address a) rs)) (and_right r.live (r.address == a) (ne_eqb r.address a absent.0)) ∙ find-absent a rs absent.1

later-differ : (a : ℕ) (rs : List Record) → AllByRecursion (λ r. a < r.address) rs → AllByRecursion (λ r. r.address ≢ a) rs
later-differ a [] all = tt
later-differ a (r ∷ rs) all = ((λ same. omega (arith, all.0)), later-differ a rs all.1)

pub find-place : (a : ℕ) (rs : List Record) (i : ℕ) (d : Record) → IsRising rs → i < length rs → (get_or rs i d).address ≡ a → find (has_live_address a) rs ≡ cond (get_or rs i d).live (Some (get_or rs i d)) None
find-place a [] i d rising within at = absurd (omega arith)
find-place a (x ∷ xs) zero d rising within at =
    let rest : find (has_live_address a) xs ≡ None = find-absent a xs (subst (λ n. AllByRecursion (λ y. y.address ≢ n) xs) at (later-differ x.address xs rising.0)) in
    let test : has_live_address a x ≡ x.live = ap (λ b. x.live && b) (eq-eqb x.address a at) ∙ and-true x.live in
    ap (λ b. cond b (Some x) (find (has_live_address a) xs)) test ∙ ap (λ o. cond x.live (Some x) o) rest
  where
    and-true : (b : Bool) → (b && true) ≡ b
    and-true true = refl
    and-true false = refl
find-place a (x ∷ xs) (suc i) d rising within at =
    let lower : x.address < (get_or xs i d).address = All-from_recursion (λ later. x.address < later.address) xs rising.0 i d (omega arith) in
    let differs : x.address ≢ a = λ same. omega arith in
    ap (λ b. cond b (Some x) (find (has_live_address a) xs)) (and_right x.live (x.address == a) (ne_eqb x.address a differs)) ∙ find-place a xs i d rising.1 (omega arith) at
