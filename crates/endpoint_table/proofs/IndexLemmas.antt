-- The addresses of the live endpoints by name, after each change of the records.
use Rattle.std.proofs.Common.{◌≡◌, ◌≢◌, ◌<◌, ◌≤◌, ◌+◌, ◌∙◌, ℕ, Bool, true, false, not, ◌&&◌, ◌||◌, List, [], ◌∷◌, ◌++◌, length, map, cond, refl, sym, ap, subst, inl, inr, arith}
use Rattle.std.specs.Prelude.{find, filter, option_map, Option, None, Some, ◌==◌}
use Rattle.std.specs.List.{AllByRecursion, list_any}
use Rattle.std.proofs.lemmas.Bool.{cases_Bool, cases_eq, eq-eqb, ne_eqb, eqb-true, and_parts, both_ways, not-true}
use Rattle.std.proofs.lemmas.Bool.Decides.{nat_tests}
use Rattle.mc_base.specs.declared.name.EndName.{EndName}
use Rattle.mc_base.specs.declared.name.Local.{Local}
use Rattle.mc_base.specs.NameMap.{Names, IsRising as AreRising, rank, learned, forgotten, address_in}
use Rattle.name_service.proofs.NameLists.{IsUnknown, forgotten-unknown, unknown-above, learned-before, learned_has_its_address, learned_leaves_others, all-learned, rising-learned}
use Rattle.endpoint_table.specs.declared.record.Record.{Record}
use Rattle.endpoint_table.specs.declared.announced.Announced.{Announced}
use Rattle.endpoint_table.specs.declared.debts.Debt.{Debt}
use Rattle.endpoint_table.specs.Table.{is_live_at, ended, tells_gone}
use Rattle.endpoint_table.specs.InTable.{name_in, addresses_in, AreApart, HasBounds, IsIndexed, IsRising, IsMarked, owes, settled_records, without_ended}
use Rattle.endpoint_table.proofs.RecordLemmas.{all-push, all-weaken, all-map, all-filter, all-find, find-passes}
use Rattle.endpoint_table.proofs.EventLemmas.{tells-end}

-- ---- names by their ranks

abbrev IsLocal : Local → Type 0
IsLocal l = (l.node < 256) × (l.port < 65536)

local_of : (r : Record) → HasBounds r → IsLocal r.local
local_of r bounds = (bounds.node, bounds.port)

rank-tells : (d : ℕ) (l m : Local) → IsLocal l → IsLocal m → rank (name_in d l) ≡ rank (name_in d m) → (l.node ≡ m.node) × (l.port ≡ m.port)
unfolding rank
rank-tells d l m fits_l fits_m same = (omega (arith, fits_l.0, fits_l.1, fits_m.0, fits_m.1), omega (arith, fits_l.0, fits_l.1, fits_m.0, fits_m.1))

-- a live endpoint has the name exactly where the ranks are the same
live-rank : (d : ℕ) (l : Local) (r : Record) → IsLocal l → HasBounds r → r.live ≡ true → is_live_at l r ≡ (rank (name_in d r.local) == rank (name_in d l))
live-rank d l r fits bounds live = elim (cases_eq (rank (name_in d r.local)) (rank (name_in d l))) [
  | inl same ↦
      let at = rank-tells d r.local l (local_of r bounds) fits same in
      ap (λ b. b && (r.local.node == l.node && r.local.port == l.port)) live
      ∙ ap (λ b. b && (r.local.port == l.port)) (eq-eqb r.local.node l.node at.0)
      ∙ eq-eqb r.local.port l.port at.1
      ∙ sym (eq-eqb _ _ same)
  | inr differ ↦ elim (cases_Bool (is_live_at l r)) [
    | inl at ↦
        let parts = and_parts r.live _ at in
        let numbers = and_parts (r.local.node == l.node) _ parts.1 in
        let node = eqb-true r.local.node l.node numbers.0 in
        let port = eqb-true r.local.port l.port numbers.1 in
        absurd (differ (ap (λ n. rank (record { domain = d; node = n; port = r.local.port })) node ∙ ap (λ p. rank (record { domain = d; node = l.node; port = p })) port))
    | inr none ↦ none ∙ sym (ne_eqb _ _ differ)
  ]
]

dead-at : (l : Local) (r : Record) → r.live ≡ false → is_live_at l r ≡ false
dead-at l r dead = ap (λ b. b && (r.local.node == l.node && r.local.port == l.port)) dead

name-of-rank : (d : ℕ) (l m : Local) → IsLocal l → IsLocal m → rank (name_in d l) ≡ rank (name_in d m) → name_in d l ≡ name_in d m
name-of-rank d l m fits_l fits_m same =
    let at = rank-tells d l m fits_l fits_m same in
    ap (λ n. name-as d n l.port) at.0 ∙ ap (λ p. name-as d m.node p) at.1
  where
    name-as : ℕ → ℕ → ℕ → EndName
    name-as domain node port = record { domain = domain; node = node; port = port }

-- ---- what is found

abbrev address_of : Record → ℕ
address_of r = r.address

find-step : (l : Local) (r : Record) (rs : List Record) (b : Bool) → is_live_at l r ≡ b → find (is_live_at l) (r ∷ rs) ≡ cond b (Some r) (find (is_live_at l) rs)
find-step l r rs b is = ap (λ b. cond b (Some r) (find (is_live_at l) rs)) is

addresses-step : (d : ℕ) (r : Record) (rs : List Record) (b : Bool) → r.live ≡ b → addresses_in d (r ∷ rs) ≡ cond b (learned (name_in d r.local) r.address (addresses_in d rs)) (addresses_in d rs)
addresses-step d r rs b is = ap (λ b. cond b (learned (name_in d r.local) r.address (addresses_in d rs)) (addresses_in d rs)) is

pub address-found : (d : ℕ) (l : Local) (rs : List Record) → IsLocal l → AllByRecursion HasBounds rs → address_in (name_in d l) (addresses_in d rs) ≡ option_map (λ r. r.address) (find (is_live_at l) rs)
address-found d l [] fits bounded = refl
address-found d l (r ∷ rs) fits bounded =
    let n = name_in d l in
    let rest = address-found d l rs fits bounded.1 in
    elim (cases_Bool r.live) [
      | inr dead ↦
          ap (address_in n) (addresses-step d r rs false dead) ∙ rest ∙ sym (ap (option_map address_of) (find-step l r rs false (dead-at l r dead)))
      | inl live ↦ elim (cases_eq (rank (name_in d r.local)) (rank n)) [
        | inl same ↦
            let here : is_live_at l r ≡ true = live-rank d l r fits bounded.0 live ∙ eq-eqb _ _ same in
            ap (address_in n) (addresses-step d r rs true live)
            ∙ ap (λ m. address_in n (learned m r.address (addresses_in d rs))) (name-of-rank d r.local l (local_of r bounded.0) fits same)
            ∙ learned_has_its_address n r.address (addresses_in d rs)
            ∙ sym (ap (option_map address_of) (find-step l r rs true here))
        | inr differ ↦
            let other : is_live_at l r ≡ false = live-rank d l r fits bounded.0 live ∙ ne_eqb _ _ differ in
            ap (address_in n) (addresses-step d r rs true live)
            ∙ learned_leaves_others (name_in d r.local) n r.address (addresses_in d rs) (λ same. differ (sym same))
            ∙ rest
            ∙ sym (ap (option_map address_of) (find-step l r rs false other))
      ]
    ]

-- an address that was found is that of a record
pub record IsFound (l : Local) (a : ℕ) (rs : List Record) : Type 0 where
  pub record-found : Record
  pub found : find (is_live_at l) rs ≡ Some record-found
  pub addressed : record-found.address ≡ a
  pub named : record-found.local ≡ l

named-alike : (l m : Local) → l.node ≡ m.node → l.port ≡ m.port → l ≡ m
named-alike l m node port = ap (λ n. local-as n l.port) node ∙ ap (λ p. local-as m.node p) port
  where
    local-as : ℕ → ℕ → Local
    local-as n p = record { node = n; port = p }

pub is-found : (l : Local) (a : ℕ) (rs : List Record) → option_map (λ r. r.address) (find (is_live_at l) rs) ≡ Some a → IsFound l a rs
is-found l a rs is = go (find (is_live_at l) rs) refl is
  where
    go : (o : Option Record) → find (is_live_at l) rs ≡ o → option_map (λ r. r.address) o ≡ Some a → IsFound l a rs
    go None found none = absurd cc
    go (Some r) found some =
        let numbers = and_parts (r.local.node == l.node) _ (and_parts r.live _ (find-passes (is_live_at l) rs r found)).1 in
        record {
          record-found = r;
          found = found;
          addressed = cc;
          named = named-alike r.local l (eqb-true r.local.node l.node numbers.0) (eqb-true r.local.port l.port numbers.1);
        }

pub none-live : (l : Local) (rs : List Record) → option_map (λ r. r.address) (find (is_live_at l) rs) ≡ None → find (is_live_at l) rs ≡ None
none-live l rs is = go (find (is_live_at l) rs) is
  where
    go : (o : Option Record) → option_map (λ r. r.address) o ≡ None → o ≡ None
    go None is = refl
    go (Some r) is = absurd cc

-- ---- how many

length-learned : (n : EndName) (a : ℕ) (ks : Names) → length (learned n a ks) ≤ length ks + 1
length-learned n a [] = omega arith
length-learned n a (k ∷ ks) = grind (arith, nat_tests, length-learned n a ks)

few-addresses : (d : ℕ) (rs : List Record) → length (addresses_in d rs) ≤ length rs
few-addresses d [] = omega arith
few-addresses d (r ∷ rs) =
    let rest = few-addresses d rs in
    let more = length-learned (name_in d r.local) r.address (addresses_in d rs) in
    elim r.live as (λ b. length (cond b (learned (name_in d r.local) r.address (addresses_in d rs)) (addresses_in d rs)) ≤ length (r ∷ rs))
    [ true ↦ omega arith | false ↦ omega arith ]

-- the index has room while the records have
pub room-for-name : (d : ℕ) (rs : List Record) (live : Names) → IsIndexed d rs live → length live ≤ length rs
room-for-name d rs live index = omega (arith, ap (λ (ks : Names). length ks) index.addresses, few-addresses d rs)

rising-addresses : (d : ℕ) (rs : List Record) → AreRising (addresses_in d rs)
rising-addresses d [] = tt
rising-addresses d (r ∷ rs) =
    let rest = rising-addresses d rs in
    elim r.live as (λ b. AreRising (cond b (learned (name_in d r.local) r.address (addresses_in d rs)) (addresses_in d rs)))
    [ true ↦ rising-learned (name_in d r.local) r.address (addresses_in d rs) rest | false ↦ rest ]

-- ---- changes of two names

learned-swap : (n m : EndName) (a b : ℕ) (ks : Names) → rank n ≢ rank m → learned n a (learned m b ks) ≡ learned m b (learned n a ks)
learned-swap n m a b [] differ = grind (arith, nat_tests)
learned-swap n m a b (k ∷ ks) differ = grind (arith, nat_tests, learned-swap n m a b ks differ)

forgotten-learned : (n : EndName) (a : ℕ) (ks : Names) → forgotten n (learned n a ks) ≡ forgotten n ks
forgotten-learned n a [] = grind (arith, nat_tests)
forgotten-learned n a (k ∷ ks) = grind (arith, nat_tests, forgotten-learned n a ks)

learned-first : (n : EndName) (a : ℕ) (ks : Names) (r : ℕ) → rank n ≤ r → AllByRecursion (λ later. r < rank later.0) ks → learned n a ks ≡ (n, a) ∷ ks
learned-first n a [] r le above = refl
learned-first n a (k ∷ ks) r le above = learned-before n a k ks (omega (arith, above.0))

forgotten-swap : (n m : EndName) (b : ℕ) (ks : Names) → AreRising ks → rank n ≢ rank m → forgotten n (learned m b ks) ≡ learned m b (forgotten n ks)
forgotten-swap n m b [] rising differ = grind (arith, nat_tests)
forgotten-swap n m b (k ∷ ks) rising differ =
    let rest = forgotten-swap n m b ks rising.1 differ in
    let first : rank m < rank k.0 → learned m b ks ≡ (m, b) ∷ ks = λ below. learned-first m b ks (rank k.0) (omega arith) rising.0 in
    let unknown : rank k.0 ≡ rank n → forgotten n ks ≡ ks = λ same. forgotten-unknown n ks (unknown-above n (rank k.0) ks (omega arith) rising.0) in
    grind (arith, nat_tests, rest, first, unknown)

-- ---- a property of what is not found

none-found : {X : Type 0} (test : X → Bool) (xs : List X) → find test xs ≡ None → AllByRecursion (λ x. test x ≡ false) xs
none-found test [] none = tt
none-found {X} test (x ∷ xs) none = elim (cases_Bool (test x)) [
  | inl here ↦ absurd (some-none (sym (ap (λ b. cond b (Some x) (find test xs)) here) ∙ none))
  | inr other ↦ (other, none-found test xs (sym (ap (λ b. cond b (Some x) (find test xs)) other) ∙ none))
]
  where
    some-none : {x : X} → Some x ≡ None → ⊥
    some-none e = cc

both-live : (r x : Record) → r.live ≡ true → is_live_at r.local x ≡ false → x.live ≡ true → is_live_at x.local r ≡ false
both-live r x here other live = elim (cases_Bool (is_live_at x.local r)) [
  | inr none ↦ none
  | inl at ↦
      let numbers = and_parts (r.local.node == x.local.node) _ (and_parts r.live _ at).1 in
      let node = eqb-true r.local.node x.local.node numbers.0 in
      let port = eqb-true r.local.port x.local.port numbers.1 in
      let same : is_live_at r.local x ≡ true =
      ap (λ b. b && (x.local.node == r.local.node && x.local.port == r.local.port)) live
      ∙ ap (λ b. b && (x.local.port == r.local.port)) (eq-eqb x.local.node r.local.node (sym node))
      ∙ eq-eqb x.local.port r.local.port (sym port) in
      absurd (both_ways (is_live_at r.local x) other same)
]

-- the name of an endpoint that is live nowhere is not among them
unknown-name : (d : ℕ) (l : Local) (rs : List Record) → IsLocal l → AllByRecursion HasBounds rs → AllByRecursion (λ r. is_live_at l r ≡ false) rs → IsUnknown (name_in d l) (addresses_in d rs)
unknown-name d l [] fits bounded none = tt
unknown-name d l (r ∷ rs) fits bounded none =
    let n = name_in d l in
    let rest = unknown-name d l rs fits bounded.1 none.1 in
    elim (cases_Bool r.live) [
      | inr dead ↦ subst (IsUnknown n) (sym (addresses-step d r rs false dead)) rest
      | inl live ↦
          let differ : rank (name_in d r.local) ≢ rank n = λ same. both_ways (is_live_at l r) none.0 (live-rank d l r fits bounded.0 live ∙ eq-eqb _ _ same) in
          subst (IsUnknown n) (sym (addresses-step d r rs true live))
          (all-learned (λ k. rank k.0 ≢ rank n) (name_in d r.local) r.address (addresses_in d rs) differ rest)
    ]

-- ---- at the opening

pub indexed-none : (d : ℕ) → IsIndexed d [] []
indexed-none d = record { addresses = refl; apart = tt; bounded = tt }

-- ---- a creation

addresses-created : (d : ℕ) (rs : List Record) (r : Record) → r.live ≡ true → HasBounds r → AllByRecursion HasBounds rs → AllByRecursion (λ x. is_live_at r.local x ≡ false) rs → learned (name_in d r.local) r.address (addresses_in d rs) ≡ addresses_in d (rs ++ r ∷ [])
addresses-created d [] r live fits bounded none = sym (addresses-step d r [] true live)
addresses-created d (x ∷ xs) r live fits bounded none =
    let n = name_in d r.local in
    let rest = addresses-created d xs r live fits bounded.1 none.1 in
    elim (cases_Bool x.live) [
      | inr dead ↦ ap (learned n r.address) (addresses-step d x xs false dead) ∙ rest ∙ sym (addresses-step d x (xs ++ r ∷ []) false dead)
      | inl there ↦
          let differ : rank n ≢ rank (name_in d x.local) = λ same. both_ways (is_live_at r.local x) none.0 (live-rank d r.local x (local_of r fits) bounded.0 there ∙ eq-eqb _ _ (sym same)) in
          ap (learned n r.address) (addresses-step d x xs true there)
          ∙ learned-swap n (name_in d x.local) r.address x.address (addresses_in d xs) differ
          ∙ ap (learned (name_in d x.local) x.address) rest
          ∙ sym (addresses-step d x (xs ++ r ∷ []) true there)
    ]

apart-created : (rs : List Record) (r : Record) → r.live ≡ true → AllByRecursion (λ x. is_live_at r.local x ≡ false) rs → AreApart rs → AreApart (rs ++ r ∷ [])
apart-created [] r live none apart = ((λ _. tt), tt)
apart-created (x ∷ xs) r live none apart =
    ((λ there. all-push (λ (later : Record). is_live_at x.local later ≡ false) xs r (apart.0 there) (both-live r x live none.0 there)), apart-created xs r live none.1 apart.1)

pub indexed-created : (d : ℕ) (rs : List Record) (r : Record) (live : Names) → IsIndexed d rs live → find (is_live_at r.local) rs ≡ None → r.live ≡ true → HasBounds r → IsIndexed d (rs ++ r ∷ []) (learned (name_in d r.local) r.address live)
indexed-created d rs r live index none there fits =
    let others = none-found (is_live_at r.local) rs none in
    record {
      addresses = ap (learned (name_in d r.local) r.address) index.addresses ∙ addresses-created d rs r there fits index.bounded others;
      apart = apart-created rs r there others index.apart;
      bounded = all-push HasBounds rs r index.bounded fits;
    }

-- ---- an end

ended-as : (a : ℕ) (r : Record) (b : Bool) → (r.address == a) ≡ b → ended a r ≡ cond b (record r { live = false }) r
ended-as a r b is = ap (λ b. cond b (record r { live = false }) r) is

ended-other : (a : ℕ) (r : Record) → r.address ≢ a → ended a r ≡ r
ended-other a r differ = ended-as a r false (ne_eqb r.address a differ)

ended-above : (a : ℕ) (rs : List Record) → AllByRecursion (λ r. a < r.address) rs → map (ended a) rs ≡ rs
ended-above a [] above = refl
ended-above a (r ∷ rs) above = ap (λ (x : Record). x ∷ map (ended a) rs) (ended-other a r (λ same. omega (arith, above.0))) ∙ ap (λ (xs : List Record). r ∷ xs) (ended-above a rs above.1)

-- where the record that ends is the first
ended-first : (d : ℕ) (l : Local) (x : Record) (xs : List Record) → IsLocal l → AllByRecursion HasBounds (x ∷ xs) → IsRising (x ∷ xs) → AreApart (x ∷ xs) → is_live_at l x ≡ true → forgotten (name_in d l) (addresses_in d (x ∷ xs)) ≡ addresses_in d (map (ended x.address) (x ∷ xs))
ended-first d l x xs fits bounded rising apart at =
    let n = name_in d l in
    let m = name_in d x.local in
    let live : x.live ≡ true = (and_parts x.live _ at).0 in
    let same : rank m ≡ rank n = eqb-true _ _ (sym (live-rank d l x fits bounded.0 live) ∙ at) in
    let name : m ≡ n = name-of-rank d x.local l (local_of x bounded.0) fits same in
    let none = unknown-name d x.local xs (local_of x bounded.0) bounded.1 (apart.0 live) in
    let gone : ended x.address x ≡ record x { live = false } = ended-as x.address x true (eq-eqb x.address x.address refl) in
    ap (forgotten n) (addresses-step d x xs true live)
    ∙ ap (λ k. forgotten k (learned m x.address (addresses_in d xs))) (sym name)
    ∙ forgotten-learned m x.address (addresses_in d xs)
    ∙ forgotten-unknown m (addresses_in d xs) none
    ∙ ap (addresses_in d) (sym (ended-above x.address xs rising.0))
    ∙ sym (addresses-step d (ended x.address x) (map (ended x.address) xs) false (ap (λ (y : Record). y.live) gone))

-- where it comes later
ended-behind : (d : ℕ) (l : Local) (x : Record) (xs : List Record) (r : Record) → IsLocal l → HasBounds x → x.address < r.address → is_live_at l x ≡ false → forgotten (name_in d l) (addresses_in d xs) ≡ addresses_in d (map (ended r.address) xs) → forgotten (name_in d l) (addresses_in d (x ∷ xs)) ≡ addresses_in d (map (ended r.address) (x ∷ xs))
ended-behind d l x xs r fits bounds below other rest =
    let n = name_in d l in
    let m = name_in d x.local in
    let left = map (ended r.address) xs in
    let stays : ended r.address x ≡ x = ended-other r.address x (λ same. omega arith) in
    let first : addresses_in d (x ∷ left) ≡ addresses_in d (ended r.address x ∷ left) = ap (λ (y : Record). addresses_in d (y ∷ left)) (sym stays) in
    elim (cases_Bool x.live) [
      | inr dead ↦
          ap (forgotten n) (addresses-step d x xs false dead) ∙ rest ∙ sym (addresses-step d x left false dead) ∙ first
      | inl live ↦
          let differ : rank n ≢ rank m = λ same. both_ways (is_live_at l x) other (live-rank d l x fits bounds live ∙ eq-eqb _ _ (sym same)) in
          ap (forgotten n) (addresses-step d x xs true live)
          ∙ forgotten-swap n m x.address (addresses_in d xs) (rising-addresses d xs) differ
          ∙ ap (learned m x.address) rest
          ∙ sym (addresses-step d x left true live)
          ∙ first
    ]

some-same : {y z : Record} → Some y ≡ Some z → y ≡ z
some-same e = cc

addresses-ended : (d : ℕ) (l : Local) (rs : List Record) (r : Record) → IsLocal l → AllByRecursion HasBounds rs → IsRising rs → AreApart rs → find (is_live_at l) rs ≡ Some r → forgotten (name_in d l) (addresses_in d rs) ≡ addresses_in d (map (ended r.address) rs)
addresses-ended d l [] r fits bounded rising apart found = absurd cc
addresses-ended d l (x ∷ xs) r fits bounded rising apart found = elim (cases_Bool (is_live_at l x)) [
  | inl at ↦
      subst (λ (y : Record). forgotten (name_in d l) (addresses_in d (x ∷ xs)) ≡ addresses_in d (map (ended y.address) (x ∷ xs))) (some-same (sym (find-step l x xs true at) ∙ found))
      (ended-first d l x xs fits bounded rising apart at)
  | inr other ↦
      let behind = sym (find-step l x xs false other) ∙ found in
      let below : x.address < r.address = all-find (λ (y : Record). x.address < y.address) (is_live_at l) xs r behind rising.0 in
      ended-behind d l x xs r fits bounded.0 below other (addresses-ended d l xs r fits bounded.1 rising.1 apart.1 behind)
]

ended-local : (a : ℕ) (r : Record) → (ended a r).local ≡ r.local
ended-local a r = elim (r.address == a) as (λ b. (cond b (record r { live = false }) r).local ≡ r.local) [ true ↦ refl | false ↦ refl ]

ended-live : (a : ℕ) (r : Record) → (ended a r).live ≡ true → r.live ≡ true
ended-live a r live = elim (cases_eq r.address a) [
  | inl same ↦ let dead : (ended a r).live ≡ false = ap (λ (y : Record). y.live) (ended-as a r true (eq-eqb r.address a same)) in absurd (both_ways _ dead live)
  | inr differ ↦ sym (ap (λ (y : Record). y.live) (ended-other a r differ)) ∙ live
]

ended-elsewhere : (a : ℕ) (l : Local) (r : Record) → is_live_at l r ≡ false → is_live_at l (ended a r) ≡ false
ended-elsewhere a l r other = elim (cases_eq r.address a) [
  | inl same ↦ ap (is_live_at l) (ended-as a r true (eq-eqb r.address a same))
  | inr differ ↦ ap (is_live_at l) (ended-other a r differ) ∙ other
]

apart-ended : (a : ℕ) (rs : List Record) → AreApart rs → AreApart (map (ended a) rs)
apart-ended a [] apart = tt
apart-ended a (r ∷ rs) apart = (
  (λ live.
      subst (λ (l : Local). AllByRecursion (λ later. is_live_at l later ≡ false) (map (ended a) rs)) (sym (ended-local a r))
      (all-map (λ (later : Record). is_live_at r.local later ≡ false) (ended a) rs
      (all-weaken (λ (later : Record). is_live_at r.local later ≡ false) (λ (later : Record). is_live_at r.local (ended a later) ≡ false) (λ later other. ended-elsewhere a r.local later other) rs (apart.0 (ended-live a r live))))),
  apart-ended a rs apart.1,
)

bounds-ended : (a : ℕ) (r : Record) → HasBounds r → HasBounds (ended a r)
bounds-ended a r fits = record {
  node = subst (λ (l : Local). l.node < 256) (sym (ended-local a r)) fits.node;
  port = subst (λ (l : Local). l.port < 65536) (sym (ended-local a r)) fits.port;
}

pub indexed-ended : (d : ℕ) (l : Local) (rs : List Record) (r : Record) (live : Names) → IsIndexed d rs live → IsRising rs → l.node < 256 → l.port < 65536 → find (is_live_at l) rs ≡ Some r → IsIndexed d (map (ended r.address) rs) (forgotten (name_in d l) live)
indexed-ended d l rs r live index rising node port found = record {
  addresses = ap (forgotten (name_in d l)) index.addresses ∙ addresses-ended d l rs r (node, port) index.bounded rising index.apart found;
  apart = apart-ended r.address rs index.apart;
  bounded = all-map HasBounds (ended r.address) rs (all-weaken HasBounds (λ x. HasBounds (ended r.address x)) (λ x fits. bounds-ended r.address x fits) rs index.bounded);
}

-- ---- records that go

addresses-left : (d : ℕ) (keeps : Record → Bool) (rs : List Record) → AllByRecursion (λ r. keeps r ≡ false → r.live ≡ false) rs → addresses_in d (filter keeps rs) ≡ addresses_in d rs
addresses-left d keeps [] dead = refl
addresses-left d keeps (r ∷ rs) dead =
    let rest = addresses-left d keeps rs dead.1 in
    elim (cases_Bool (keeps r)) [
      | inl stays ↦
          ap (λ b. addresses_in d (cond b (r ∷ filter keeps rs) (filter keeps rs))) stays
          ∙ ap (λ ks. cond r.live (learned (name_in d r.local) r.address ks) ks) rest
      | inr goes ↦
          ap (λ b. addresses_in d (cond b (r ∷ filter keeps rs) (filter keeps rs))) goes
          ∙ rest
          ∙ sym (addresses-step d r rs false (dead.0 goes))
    ]

apart-left : (keeps : Record → Bool) (rs : List Record) → AreApart rs → AreApart (filter keeps rs)
apart-left keeps [] apart = tt
apart-left keeps (r ∷ rs) apart =
    elim (keeps r) as (λ b. AreApart (cond b (r ∷ filter keeps rs) (filter keeps rs)))
    [ true ↦ ((λ live. all-filter (λ (later : Record). is_live_at r.local later ≡ false) keeps rs (apart.0 live)), apart-left keeps rs apart.1) | false ↦ apart-left keeps rs apart.1 ]

indexed-left : (d : ℕ) (keeps : Record → Bool) (rs : List Record) (live : Names) → AllByRecursion (λ r. keeps r ≡ false → r.live ≡ false) rs → IsIndexed d rs live → IsIndexed d (filter keeps rs) live
indexed-left d keeps rs live dead index = record {
  addresses = index.addresses ∙ sym (addresses-left d keeps rs dead);
  apart = apart-left keeps rs index.apart;
  bounded = all-filter HasBounds keeps rs index.bounded;
}

-- a record whose end is told is dead
told-dead : (e : Announced) (es : List Announced) (r : Record) → e.create ≡ false → IsMarked (e ∷ es) r → not (r.address == e.address) ≡ false → r.live ≡ false
told-dead e es r gone marked goes =
    let same : r.address ≡ e.address = eqb-true r.address e.address (from-not (r.address == e.address) goes) in
    let told : tells_gone r.address e ≡ true = tells-end r.address e gone ∙ eq-eqb e.address r.address (sym same) in
    not-true r.live (sym marked ∙ ap (λ b. b || list_any (tells_gone r.address) es) told)
  where
    from-not : (b : Bool) → not b ≡ false → b ≡ true
    from-not true is = refl
    from-not false is = cc

indexed-without : (d : ℕ) (rs : List Record) (es : List Announced) (live : Names) → AllByRecursion (IsMarked es) rs → IsIndexed d rs live → IsIndexed d (without_ended rs es) live
indexed-without d rs [] live marked index = index
indexed-without d rs (e ∷ es) live marked index =
    let keeps : Record → Bool = λ r. not (r.address == e.address) in
    elim (cases_Bool e.create) [
      | inl there ↦ subst (λ b. IsIndexed d (cond b rs (filter keeps rs)) live) (sym there) index
      | inr gone ↦
          subst (λ b. IsIndexed d (cond b rs (filter keeps rs)) live) (sym gone)
          (indexed-left d keeps rs live (all-weaken (IsMarked (e ∷ es)) (λ r. keeps r ≡ false → r.live ≡ false) (λ r is goes. told-dead e es r gone is goes) rs marked) index)
    ]

pub indexed-settled : (d : ℕ) (rs : List Record) (es : List Announced) (ds : List Debt) (live : Names) → AllByRecursion (IsMarked es) rs → IsIndexed d rs live → IsIndexed d (settled_records rs es ds) live
indexed-settled d rs es ds live marked index =
    elim (list_any (owes (length es)) ds) as (λ b. IsIndexed d (cond b rs (without_ended rs es)) live)
    [ true ↦ index | false ↦ indexed-without d rs es live marked index ]
