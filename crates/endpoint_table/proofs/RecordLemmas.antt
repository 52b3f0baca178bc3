-- Records in rising order: what stays so, and how many announcements of them may be owed.
use Rattle.std.proofs.Common.{◌≡◌, ◌<◌, ◌≤◌, ◌+◌, ◌∙◌, ℕ, Bool, true, false, not, List, [], ◌∷◌, ◌++◌, length, map, cond, refl, sym, ap, subst, inl, inr, arith}
use Rattle.std.specs.Prelude.{find, filter, Some, ◌==◌, nat_le}
use Rattle.std.specs.List.{AllByRecursion}
use Rattle.std.proofs.lemmas.Bool.{cases_Bool, cases_eq, cases_lt, and_parts, eq-eqb, ne_eqb, le-leb, lt-leb}
use Rattle.mc_base.specs.declared.name.Local.{Local}
use Rattle.endpoint_table.specs.declared.record.Record.{Record}
use Rattle.endpoint_table.specs.Table.{is_live_at, ended}
use Rattle.endpoint_table.specs.InTable.{IsRising, weight, most_owed}

-- ---- a property of all

pub all-push : {X : Type 0} (P : X → Type 0) (xs : List X) (y : X) → AllByRecursion P xs → P y → AllByRecursion P (xs ++ y ∷ [])
all-push P [] y all last = (last, tt)
all-push P (x ∷ xs) y all last = (all.0, all-push P xs y all.1 last)

pub all-weaken : {X : Type 0} (P Q : X → Type 0) → ((x : X) → P x → Q x) → (xs : List X) → AllByRecursion P xs → AllByRecursion Q xs
all-weaken P Q f [] all = tt
all-weaken P Q f (x ∷ xs) all = (f x all.0, all-weaken P Q f xs all.1)

pub all-map : {X Y : Type 0} (P : Y → Type 0) (f : X → Y) (xs : List X) → AllByRecursion (λ x. P (f x)) xs → AllByRecursion P (map f xs)
all-map P f [] all = tt
all-map P f (x ∷ xs) all = (all.0, all-map P f xs all.1)

pub all-filter : {X : Type 0} (P : X → Type 0) (keeps : X → Bool) (xs : List X) → AllByRecursion P xs → AllByRecursion P (filter keeps xs)
all-filter P keeps [] all = tt
all-filter P keeps (x ∷ xs) all =
    elim (keeps x) as (λ b. AllByRecursion P (cond b (x ∷ filter keeps xs) (filter keeps xs)))
    [ true ↦ (all.0, all-filter P keeps xs all.1) | false ↦ all-filter P keeps xs all.1 ]

pub all-find : {X : Type 0} (P : X → Type 0) (test : X → Bool) (xs : List X) (x : X) → find test xs ≡ Some x → AllByRecursion P xs → P x
all-find P test [] x is all = absurd cc
all-find {X} P test (y ∷ xs) x is all = go (test y) (λ found. all-find P test xs x found all.1) is
  where
    go : (b : Bool) → (find test xs ≡ Some x → P x) → cond b (Some y) (find test xs) ≡ Some x → P x
    go true later found = let same : y ≡ x = cc in subst P same all.0
    go false later found = later found

-- what is found passes the test
pub find-passes : {X : Type 0} (test : X → Bool) (xs : List X) (x : X) → find test xs ≡ Some x → test x ≡ true
find-passes test [] x is = absurd cc
find-passes {X} test (y ∷ xs) x is = go (test y) refl (find-passes test xs x) is
  where
    go : (b : Bool) → test y ≡ b → (find test xs ≡ Some x → test x ≡ true) → cond b (Some y) (find test xs) ≡ Some x → test x ≡ true
    go true at later found = let same : y ≡ x = cc in subst (λ (z : X). test z ≡ true) same at
    go false at later found = later found

-- ---- a record whose endpoint ended

ended-as : Bool → Record → Record
ended-as b r = cond b (record r { live = false }) r

ended-address-as : (b : Bool) (r : Record) → (cond b (record r { live = false }) r).address ≡ r.address
ended-address-as true r = refl
ended-address-as false r = refl

pub ended-address : (a : ℕ) (r : Record) → (ended a r).address ≡ r.address
ended-address a r = ended-address-as (r.address == a) r

-- ---- rising order

pub rising-push : (rs : List Record) (r : Record) → IsRising rs → AllByRecursion (λ x. x.address < r.address) rs → IsRising (rs ++ r ∷ [])
rising-push [] r rising below = (tt, tt)
rising-push (x ∷ xs) r rising below = (all-push (λ (later : Record). x.address < later.address) xs r rising.0 below.0, rising-push xs r rising.1 below.1)

pub rising-ended : (a : ℕ) (rs : List Record) → IsRising rs → IsRising (map (ended a) rs)
rising-ended a [] rising = tt
rising-ended a (r ∷ rs) rising =
    let rest : AllByRecursion (λ x. (ended a r).address < (ended a x).address) rs =
    all-weaken (λ (x : Record). r.address < x.address) (λ (x : Record). (ended a r).address < (ended a x).address) (λ x lt. omega (arith, ended-address a r, ended-address a x, lt)) rs rising.0 in
    (all-map (λ (later : Record). (ended a r).address < later.address) (ended a) rs rest, rising-ended a rs rising.1)

pub rising-filter : (keeps : Record → Bool) (rs : List Record) → IsRising rs → IsRising (filter keeps rs)
rising-filter keeps [] rising = tt
rising-filter keeps (r ∷ rs) rising =
    elim (keeps r) as (λ b. IsRising (cond b (r ∷ filter keeps rs) (filter keeps rs)))
    [ true ↦ (all-filter (λ (later : Record). r.address < later.address) keeps rs rising.0, rising-filter keeps rs rising.1) | false ↦ rising-filter keeps rs rising.1 ]

-- ---- how many announcements may be owed

told-below : (from a : ℕ) → a < from → ◌≡◌ {A = ℕ} (cond (nat_le from a) 1 0) 0
told-below from a lt = ap (λ b. cond {A = ℕ} b 1 0) (lt-leb from a lt)

told-above : (from a : ℕ) → from ≤ a → ◌≡◌ {A = ℕ} (cond (nat_le from a) 1 0) 1
told-above from a le = ap (λ b. cond {A = ℕ} b 1 0) (le-leb from a le)

bit-most : (b : Bool) → cond b 1 0 ≤ 1
bit-most true = omega arith
bit-most false = omega arith

bit-most-not : (b : Bool) → cond b 0 1 ≤ 1
bit-most-not true = omega arith
bit-most-not false = omega arith

pub weight-first : (from : ℕ) (r : Record) → weight from r ≤ weight (from + 1) r + 1
weight-first from r = omega (arith, bit-most (nat_le from r.address), bit-most (nat_le (from + 1) r.address))

pub weight-other : (from : ℕ) (r : Record) → (r.address ≡ from → ⊥) → weight from r ≡ weight (from + 1) r
weight-other from r differs = elim (cases_lt from r.address) [
  | inl lt ↦ omega (arith, told-above from r.address (omega arith), told-above (from + 1) r.address (omega arith))
  | inr le ↦ let below : r.address < from = omega (arith, differs) in omega (arith, told-below from r.address below, told-below (from + 1) r.address (omega arith))
]

most_owed-above : (from : ℕ) (rs : List Record) → AllByRecursion (λ r. from < r.address) rs → most_owed from rs ≡ most_owed (from + 1) rs
most_owed-above from [] all = refl
most_owed-above from (r ∷ rs) all = omega (arith, weight-other from r (λ same. omega (arith, all.0)), most_owed-above from rs all.1)

-- one announcement fewer once the endpoint of an address was announced
pub most_owed-told : (from : ℕ) (rs : List Record) → IsRising rs → most_owed from rs ≤ most_owed (from + 1) rs + 1
most_owed-told from [] rising = omega arith
most_owed-told from (r ∷ rs) rising = elim (cases_eq r.address from) [
  | inl same ↦
      let rest = most_owed-above from rs (all-weaken (λ (x : Record). r.address < x.address) (λ (x : Record). from < x.address) (λ x lt. omega arith) rs rising.0) in
      omega (arith, rest, weight-first from r)
  | inr differs ↦ omega (arith, weight-other from r differs, most_owed-told from rs rising.1)
]

pub most_owed-push : (from : ℕ) (rs : List Record) (r : Record) → most_owed from (rs ++ r ∷ []) ≡ most_owed from rs + weight from r
most_owed-push from [] r = omega arith
most_owed-push from (x ∷ xs) r = omega (arith, most_owed-push from xs r)

filter-above : (a : ℕ) (rs : List Record) → AllByRecursion (λ r. a < r.address) rs → filter (λ r. not (r.address == a)) rs ≡ rs
filter-above a [] all = refl
filter-above a (r ∷ rs) all =
    let keeps : (r.address == a) ≡ false = ne_eqb r.address a (λ same. omega (arith, all.0)) in
    ap (λ b. cond (not b) (r ∷ filter (λ x. not (x.address == a)) rs) (filter (λ x. not (x.address == a)) rs)) keeps ∙ ap (λ xs. r ∷ xs) (filter-above a rs all.1)

-- one announcement fewer without the record of an address that was announced
pub most_owed-filter : (from a : ℕ) (rs : List Record) → IsRising rs → a < from → most_owed from rs ≤ most_owed from (filter (λ r. not (r.address == a)) rs) + 1
most_owed-filter from a [] rising lt = omega arith
most_owed-filter from a (r ∷ rs) rising lt =
    let kept = filter (λ x. not (x.address == a)) rs in
    elim (cases_eq r.address a) [
      | inl same ↦
          let rest = filter-above a rs (all-weaken (λ (x : Record). r.address < x.address) (λ (x : Record). a < x.address) (λ x above. omega arith) rs rising.0) in
          let goes : filter (λ x. not (x.address == a)) (r ∷ rs) ≡ rs = ap (λ b. cond (not b) (r ∷ kept) kept) (eq-eqb r.address a same) ∙ rest in
          let one : weight from r ≤ 1 = omega (arith, told-below from r.address (omega arith), bit-most-not r.live) in
          subst (λ xs. most_owed from (r ∷ rs) ≤ most_owed from xs + 1) (sym goes) (omega arith)
      | inr differs ↦
          let stays : filter (λ x. not (x.address == a)) (r ∷ rs) ≡ r ∷ kept = ap (λ b. cond (not b) (r ∷ kept) kept) (ne_eqb r.address a differs) in
          subst (λ xs. most_owed from (r ∷ rs) ≤ most_owed from xs + 1) (sym stays) (omega (arith, most_owed-filter from a rs rising.1 lt))
    ]

weight-ended-as : (from : ℕ) (b : Bool) (r : Record) → weight from r ≤ weight from (cond b (record r { live = false }) r)
weight-ended-as from true r = omega (arith, bit-most-not r.live)
weight-ended-as from false r = omega arith

most_owed-ended-least : (from a : ℕ) (rs : List Record) → most_owed from rs ≤ most_owed from (map (ended a) rs)
most_owed-ended-least from a [] = omega arith
most_owed-ended-least from a (r ∷ rs) = omega (arith, weight-ended-as from (r.address == a) r, most_owed-ended-least from a rs)

live-of : (local : Local) (r : Record) → is_live_at local r ≡ true → r.live ≡ true
live-of local r is = (and_parts r.live _ is).0

weight-ended : (from : ℕ) (r : Record) → r.live ≡ true → weight from (ended r.address r) ≡ weight from r + 1
weight-ended from r live =
    let gone : ended r.address r ≡ record r { live = false } = ap (λ b. cond b (record r { live = false }) r) (eq-eqb r.address r.address refl) in
    let was : ◌≡◌ {A = ℕ} (cond r.live 0 1) 0 = ap (λ b. cond {A = ℕ} b 0 1) live in
    ap (weight from) gone ∙ omega (arith, was)

-- one announcement more with the end of a live endpoint
pub most_owed-ended : (from : ℕ) (local : Local) (rs : List Record) (r : Record) → find (is_live_at local) rs ≡ Some r → most_owed from rs + 1 ≤ most_owed from (map (ended r.address) rs)
most_owed-ended from local [] r is = absurd cc
most_owed-ended from local (x ∷ xs) r is = elim (cases_Bool (is_live_at local x)) [
  | inl at ↦
      let first : x ≡ r = some-same (subst (λ b. cond b (Some x) (find (is_live_at local) xs) ≡ Some r) at is) in
      subst (λ (z : Record). most_owed from (x ∷ xs) + 1 ≤ most_owed from (map (ended z.address) (x ∷ xs))) first
      (omega (arith, weight-ended from x (live-of local x at), most_owed-ended-least from x.address xs))
  | inr differs ↦
      let later : find (is_live_at local) xs ≡ Some r = subst (λ b. cond b (Some x) (find (is_live_at local) xs) ≡ Some r) differs is in
      omega (arith, weight-ended-as from (x.address == r.address) x, most_owed-ended from local xs r later)
]
  where
    some-same : {x y : Record} → Some x ≡ Some y → x ≡ y
    some-same e = cc

-- a record owes two announcements at most
weight-most : (from : ℕ) (r : Record) → weight from r ≤ 2
weight-most from r = omega (arith, bit-most (nat_le from r.address), bit-most-not r.live)

pub most_owed-most : (from : ℕ) (rs : List Record) → most_owed from rs ≤ length rs + length rs
most_owed-most from [] = omega arith
most_owed-most from (r ∷ rs) = omega (arith, weight-most from r, most_owed-most from rs)

-- a new record owes one announcement
pub weight-new : (from : ℕ) (r : Record) → from ≤ r.address → r.live ≡ true → weight from r ≡ 1
weight-new from r le live =
    let was : ◌≡◌ {A = ℕ} (cond r.live 0 1) 0 = ap (λ b. cond {A = ℕ} b 0 1) live in
    omega (arith, was, told-above from r.address le)
