-- Endpoints in the rising order of their addresses, and what a search among them finds.
use Rattle.std.proofs.Common.{◌≡◌, ◌≢◌, ◌<◌, ◌+◌, ◌∙◌, ℕ, zero, suc, Bool, false, List, [], ◌∷◌, ◌++◌, length, map, get_or, cond, Option, Some, None, refl, sym, ap, subst, inl, inr, arith}
use Rattle.std.specs.Prelude.{find, filter, position, is_some, option_map, option_and_then, slice_get, slice_set, Result, Ok, Err, ◌&&◌, ◌==◌}
use Rattle.std.specs.List.{AllByRecursion, position_from}
use Rattle.std.specs.List.Sorted.{IsSearchInRange, IsBinarySearchResult, IsNonDecreasingBy}
use Rattle.std.specs.Ordering.{nat_cmp, ordering_index}
use Rattle.std.proofs.lemmas.Bool.{cases_lt, eq-eqb, ne_eqb}
use Rattle.std.proofs.lemmas.Bool.Decides.{nat_tests}
use Rattle.std.proofs.lemmas.Cmp.{ranked}
use Rattle.std.proofs.lemmas.Iterator.Adapters.{position_from-zero}
use Rattle.std.proofs.lemmas.List.Elements.{All-from_recursion, recursion_from_All}
use Rattle.std.proofs.lemmas.Option.{slice_get-get_or, slice_get_within}
use Rattle.mc_base.specs.declared.name.Local.{Local}
use Rattle.endpoint_table.specs.declared.record.Record.{Record}
use Rattle.endpoint_table.specs.Table.{is_live_at}
use Rattle.board_model.specs.Lists.{without_at}
use Rattle.board_model.proofs.MessageLists.{get-position, some-position}
use Rattle.board_model.proofs.WholeFinds.{find-mapped}
use Rattle.domain_parts.specs.declared.endpoints.Endpoint.{Endpoint}
use Rattle.domain_parts.specs.InTable.{AreInOrder}
use Rattle.domain_parts.specs.Records.{new_record}
use Rattle.domain_parts.specs.Tied.{live_record}
use Rattle.domain_parts.proofs.Filters.{find-both}
use Rattle.domain_parts.proofs.Tables.{All-push, All-without}
use Rattle.domain_parts.proofs.Tying.{is_live, is_named, named-there}

-- ---- what stays in order

pub order-push : (es : List Endpoint) (e : Endpoint) → AreInOrder es → AllByRecursion (λ x. x.address < e.address) es → AreInOrder (es ++ e ∷ [])
order-push [] e order below = (tt, tt)
order-push (x ∷ xs) e order below = (All-push (λ (later : Endpoint). x.address < later.address) xs e order.0 below.0, order-push xs e order.1 below.1)

pub order-without : (i : ℕ) (es : List Endpoint) → AreInOrder es → AreInOrder (without_at i es)
order-without i [] order = tt
order-without zero (e ∷ es) order = order.1
order-without (suc i) (e ∷ es) order = (All-without (λ (later : Endpoint). e.address < later.address) i es order.0, order-without i es order.1)

-- what all keep where one is written
pub all-written : (P : Endpoint → Type 0) (es : List Endpoint) (i : ℕ) (e d : Endpoint) → i < length es → e ≡ get_or es i e → (P e → P d) → AllByRecursion P es → AllByRecursion P (slice_set es i d)
all-written P [] i e d lt read keeps all = absurd (omega arith)
all-written P (x ∷ es) zero e d lt read keeps all = (keeps (subst P (sym read) all.0), all.1)
all-written P (x ∷ es) (suc i) e d lt read keeps all = (all.0, all-written P es i e d (omega arith) read keeps all.1)

pub order-written : (es : List Endpoint) (i : ℕ) (e d : Endpoint) → i < length es → e ≡ get_or es i e → d.address ≡ e.address → AreInOrder es → AreInOrder (slice_set es i d)
order-written [] i e d lt read same order = absurd (omega arith)
order-written (x ∷ es) zero e d lt read same order =
    let is : x.address ≡ d.address = sym (same ∙ ap (λ (y : Endpoint). y.address) read) in
    (subst (λ (n : ℕ). AllByRecursion (λ later. n < later.address) es) is order.0, order.1)
order-written (x ∷ es) (suc i) e d lt read same order =
    (all-written (λ (y : Endpoint). x.address < y.address) es i e d (omega arith) read (λ less. omega (arith, less, same)) order.0, order-written es i e d (omega arith) read same order.1)

-- ---- the place of an address

abbrev pub has_address : ℕ → Endpoint → Bool
has_address a e = e.address == a

absent-from : (a k : ℕ) (es : List Endpoint) → AllByRecursion (λ e. e.address ≢ a) es → position_from (has_address a) k es ≡ None
absent-from a k [] none = refl
absent-from a k (e ∷ es) none =
    ap (λ (b : Bool). cond b (Some k) (position_from (has_address a) (k + 1) es)) (ne_eqb e.address a none.0) ∙ absent-from a (k + 1) es none.1

there-from : (a k : ℕ) (es : List Endpoint) (i : ℕ) (d : Endpoint) → AreInOrder es → i < length es → (get_or es i d).address ≡ a → position_from (has_address a) k es ≡ Some (k + i)
there-from a k [] i d order within is = absurd (omega arith)
there-from a k (e ∷ es) zero d order within is =
    let here : k ≡ k + zero = omega arith in
    ap (λ (b : Bool). cond b (Some k) (position_from (has_address a) (k + 1) es)) (eq-eqb e.address a is) ∙ ap (λ (n : ℕ). Some n) here
there-from a k (e ∷ es) (suc i) d order within is =
    let lower : e.address < (get_or es i d).address = All-from_recursion (λ (later : Endpoint). e.address < later.address) es order.0 i d (omega arith) in
    let at : k + 1 + i ≡ k + suc i = omega arith in
    ap (λ (b : Bool). cond b (Some k) (position_from (has_address a) (k + 1) es)) (ne_eqb e.address a (λ same. omega (arith, lower, same, is)))
    ∙ there-from a (k + 1) es i d order.1 (omega arith) is
    ∙ ap (λ (n : ℕ). Some n) at

position-absent : (a : ℕ) (es : List Endpoint) → AllByRecursion (λ e. e.address ≢ a) es → position (has_address a) es ≡ None
position-absent a es none = position_from-zero (has_address a) es ∙ absent-from a 0 es none

position-there : (a : ℕ) (es : List Endpoint) (i : ℕ) (d : Endpoint) → AreInOrder es → i < length es → (get_or es i d).address ≡ a → position (has_address a) es ≡ Some i
position-there a es i d order within is =
    let at : 0 + i ≡ i = omega arith in
    position_from-zero (has_address a) es ∙ there-from a 0 es i d order within is ∙ ap (λ (n : ℕ). Some n) at

-- ---- a binary search

addresses-rise : (es : List Endpoint) → AreInOrder es → (i j : ℕ) (d : Endpoint) → i < j → j < length es → (get_or es i d).address < (get_or es j d).address
addresses-rise [] order i j d before within = absurd (omega arith)
addresses-rise (e ∷ es) order i zero d before within = absurd (omega arith)
addresses-rise (e ∷ es) order zero (suc j) d before within = All-from_recursion (λ (later : Endpoint). e.address < later.address) es order.0 j d (omega arith)
addresses-rise (e ∷ es) order (suc i) (suc j) d before within = addresses-rise es order.1 i j d (omega arith) (omega arith)

-- the comparisons with an address rise along the list, as the search asks
comparisons-rise : (es : List Endpoint) → AreInOrder es → (a : ℕ) → IsNonDecreasingBy (λ e. ordering_index (nat_cmp e.address a)) es
comparisons-rise es order a i j d le within =
    let rise : i < j → (get_or es i d).address < (get_or es j d).address = λ before. addresses-rise es order i j d before within in
    grind (arith, nat_tests, rise, λ (same : i ≡ j). ap (λ m. (get_or es m d).address) same)

abbrev pub place_found : Result ℕ ℕ → Option ℕ
place_found (Ok place) = Some place
place_found (Err place) = None

nothing : Endpoint
nothing = new_record 0 (record { node = 0; port = 0 }) 0

pub searched : (es : List Endpoint) (a : ℕ) (r : Result ℕ ℕ) → AreInOrder es → IsSearchInRange r (length es) → IsBinarySearchResult (λ e. nat_cmp e.address a) es r → place_found r ≡ position (has_address a) es
searched es a (Ok place) order within equal = sym (position-there a es place nothing order within (ranked _ a _ (sym (equal nothing))))
searched es a (Err place) order within parted =
    let parts = parted (comparisons-rise es order a) in
    sym (position-absent a es (recursion_from_All (λ (e : Endpoint). e.address ≢ a) es (λ k d inside. elim (cases_lt k place) [
      | inl below ↦ λ same. let less = ranked _ a _ (sym (parts.0 k d (omega arith) below)) in omega arith
      | inr least ↦ λ same. let greater = ranked _ a _ (sym (parts.1 k d least inside)) in omega arith
    ])))

-- ---- the place of a name

-- the live record of a name is that of the endpoint
named-found : (xs : List Record) (es : List Endpoint) (at : Local) → filter is_live xs ≡ map live_record es → find (is_live_at at) xs ≡ option_map live_record (find (is_named at) es)
named-found xs es at live =
    find-both is_live (λ (x : Record). x.local.node == at.node && x.local.port == at.port) xs
    ∙ ap (find (λ (x : Record). x.local.node == at.node && x.local.port == at.port)) live
    ∙ find-mapped (λ (x : Record). x.local.node == at.node && x.local.port == at.port) live_record es

some-none : {A : Type 0} (o : Option A) → is_some o ≡ false → o ≡ None
some-none None e = refl
some-none (Some x) e = absurd cc

none-none : (o : Option Endpoint) → None ≡ option_map (λ (x : Record). x.address) (option_map live_record o) → is_some o ≡ false
none-none None e = refl
none-none (Some x) e = absurd cc

pub unnamed : (xs : List Record) (es : List Endpoint) (at : Local) → filter is_live xs ≡ map live_record es → None ≡ option_map (λ (x : Record). x.address) (find (is_live_at at) xs) → position (is_named at) es ≡ None
unnamed xs es at live none =
    let absent = none-none (find (is_named at) es) (none ∙ ap (option_map (λ (x : Record). x.address)) (named-found xs es at live)) in
    some-none (position (is_named at) es) (some-position (is_named at) es ∙ absent)

-- at the address of the name's record stands the endpoint of the name
pub named : (xs : List Record) (es : List Endpoint) (at : Local) (a : ℕ) → filter is_live xs ≡ map live_record es → AreInOrder es → Some a ≡ option_map (λ (x : Record). x.address) (find (is_live_at at) xs) → position (has_address a) es ≡ position (is_named at) es
named xs es at a live order some = go (position (is_named at) es) refl
  where
    found : Some a ≡ option_map (λ (x : Record). x.address) (option_map live_record (find (is_named at) es))
    found = some ∙ ap (option_map (λ (x : Record). x.address)) (named-found xs es at live)

    go : (o : Option ℕ) → position (is_named at) es ≡ o → position (has_address a) es ≡ o
    go None is =
        let none = some-none (find (is_named at) es) (sym (some-position (is_named at) es) ∙ ap (λ (o : Option ℕ). is_some o) is) in
        let e = found ∙ ap (λ (o : Option Endpoint). option_map (λ (x : Record). x.address) (option_map live_record o)) none in
        absurd cc
    go (Some i) is =
        let there = named-there at es i is in
        let e = there.0 in
        let within = slice_get_within es i e there.1 in
        let first : find (is_named at) es ≡ Some e = sym (get-position (is_named at) es) ∙ ap (λ (o : Option ℕ). option_and_then (λ (k : ℕ). slice_get es k) o) is ∙ there.1 in
        let addressed : Some a ≡ Some e.address = found ∙ ap (λ (o : Option Endpoint). option_map (λ (x : Record). x.address) (option_map live_record o)) first in
        let read : Some e ≡ Some (get_or es i e) = sym there.1 ∙ slice_get-get_or es i e within in
        let same : (get_or es i e).address ≡ a = cc in
        position-there a es i e order within same
