-- A table of endpoints after announcements to one linked domain were put: what is owed, and which records are left.
use Rattle.std.proofs.Common.{◌≡◌, ℕ, zero, suc, ◌+◌, ◌<◌, Bool, true, false, not, cond, ◌||◌, List, [], ◌∷◌, map, drop, Some, refl, sym, ap, ◌∙◌, arith, ne_eqb, eqb-true}
use Rattle.std.specs.Prelude.{◌==◌, filter, find}
use Rattle.std.specs.List.{AllByRecursion, list_any}
use Rattle.std.proofs.lemmas.List.{drop-drop}
use Rattle.std.proofs.Math.Seq.{drop-nil}
use Rattle.std.proofs.lemmas.Bool.{both_ways}
use Rattle.endpoint_table.specs.declared.record.Record.{Record}
use Rattle.endpoint_table.specs.declared.announced.Announced.{Announced}
use Rattle.endpoint_table.specs.Table.{Owing, Table, tells_gone, owes_gone, is_in_use, told_oldest, paid_to}
use Rattle.endpoint_table.proofs.RecordLemmas.{all-filter, rising-filter}
use Rattle.domain_parts.specs.Owed.{owed_by}
use Rattle.domain_parts.specs.Peers.{ended_in}
use Rattle.domain_parts.specs.Records.{Records}
use Rattle.domain_parts.specs.Tied.{AreTied}
use Rattle.domain_parts.proofs.Filters.{filter-every}
use Rattle.domain_parts.proofs.LinkPlaces.{map-map}

-- a linked domain was told so many
abbrev paid_times : ℕ → Table → ℕ → Table
paid_times zero t peer = t
paid_times (suc n) t peer = paid_times n (paid_to t peer) peer

-- ---- what is owed

-- a linked domain was told so many
abbrev pub told_times : ℕ → ℕ → Owing → Owing
told_times k peer o = cond (o.peer == peer) (record o { owed = drop k o.owed }) o

one-more : (k : ℕ) → 1 + k ≡ suc k
one-more k = omega arith

told-more : (k peer : ℕ) (o : Owing) → told_times k peer (told_oldest peer o) ≡ told_times (suc k) peer o
told-more k peer o = go (o.peer == peer) refl
  where
    go : (b : Bool) → (o.peer == peer) ≡ b → told_times k peer (told_oldest peer o) ≡ told_times (suc k) peer o
    go true e =
        ap (λ (c : Bool). told_times k peer (cond c (record o { owed = drop 1 o.owed }) o)) e
        ∙ ap (λ (c : Bool). cond c (record o { owed = drop k (drop 1 o.owed) }) (record o { owed = drop 1 o.owed })) e
        ∙ ap (λ (xs : List Announced). record o { owed = xs }) (drop-drop k 1 o.owed)
        ∙ ap (λ (n : ℕ). record o { owed = drop n o.owed }) (one-more k)
        ∙ sym (ap (λ (c : Bool). cond c (record o { owed = drop (suc k) o.owed }) o) e)
    go false e =
        ap (λ (c : Bool). told_times k peer (cond c (record o { owed = drop 1 o.owed }) o)) e
        ∙ ap (λ (c : Bool). cond c (record o { owed = drop k o.owed }) o) e
        ∙ sym (ap (λ (c : Bool). cond c (record o { owed = drop (suc k) o.owed }) o) e)

told-none : (peer : ℕ) (o : Owing) → told_times 0 peer o ≡ o
told-none peer o = go (o.peer == peer)
  where
    go : (b : Bool) → cond b (record o { owed = drop 0 o.owed }) o ≡ o
    go true = refl
    go false = refl

told-peer : (k peer : ℕ) (o : Owing) → (told_times k peer o).peer ≡ o.peer
told-peer k peer o = go (o.peer == peer)
  where
    go : (b : Bool) → (cond b (record o { owed = drop k o.owed }) o).peer ≡ o.peer
    go true = refl
    go false = refl

map-same : {X Y : Type 0} (f g : X → Y) → ((x : X) → f x ≡ g x) → (xs : List X) → map f xs ≡ map g xs
map-same f g same [] = refl
map-same {X} {Y} f g same (x ∷ xs) = ap (λ (y : Y). y ∷ map f xs) (same x) ∙ ap (λ (ys : List Y). g x ∷ ys) (map-same f g same xs)

map-none : {X : Type 0} (xs : List X) → map (λ x. x) xs ≡ xs
map-none [] = refl
map-none {X} (x ∷ xs) = ap (λ (ys : List X). x ∷ ys) (map-none xs)

all-told : (k peer : ℕ) (os : List Owing) → map (told_times k peer) (map (told_oldest peer) os) ≡ map (told_times (suc k) peer) os
all-told k peer os = map-map (told_times k peer) (told_oldest peer) os ∙ map-same (λ (o : Owing). told_times k peer (told_oldest peer o)) (told_times (suc k) peer) (told-more k peer) os

none-told : (peer : ℕ) (os : List Owing) → map (told_times 0 peer) os ≡ os
none-told peer os = map-same (told_times 0 peer) (λ o. o) (told-none peer) os ∙ map-none os

pub told-peers : (k peer : ℕ) (os : List Owing) → map (λ (o : Owing). o.peer) (map (told_times k peer) os) ≡ map (λ (o : Owing). o.peer) os
told-peers k peer os = map-map (λ (o : Owing). o.peer) (told_times k peer) os ∙ map-same (λ (o : Owing). (told_times k peer o).peer) (λ (o : Owing). o.peer) (told-peer k peer) os

-- of the linked domain the first ones are owed no more
pub owed-own : (k peer : ℕ) (os : List Owing) → owed_by (find (λ o. o.peer == peer) (map (told_times k peer) os)) ≡ drop k (owed_by (find (λ o. o.peer == peer) os))
owed-own k peer [] = sym (drop-nil k)
owed-own k peer (o ∷ os) = go (o.peer == peer) refl (owed-own k peer os)
  where
    go : (b : Bool) → (o.peer == peer) ≡ b → owed_by (find (λ x. x.peer == peer) (map (told_times k peer) os)) ≡ drop k (owed_by (find (λ x. x.peer == peer) os))
        → owed_by (find (λ x. x.peer == peer) (map (told_times k peer) (o ∷ os))) ≡ drop k (owed_by (find (λ x. x.peer == peer) (o ∷ os)))
    go true e rest =
        let rests = find (λ (x : Owing). x.peer == peer) (map (told_times k peer) os) in
        ap (λ (n : ℕ). owed_by (cond (n == peer) (Some (told_times k peer o)) rests)) (told-peer k peer o)
        ∙ ap (λ (b : Bool). owed_by (cond b (Some (told_times k peer o)) rests)) e
        ∙ ap (λ (b : Bool). (cond b (record o { owed = drop k o.owed }) o).owed) e
        ∙ sym (ap (λ (b : Bool). drop k (owed_by (cond b (Some o) (find (λ (x : Owing). x.peer == peer) os)))) e)
    go false e rest =
        let rests = find (λ (x : Owing). x.peer == peer) (map (told_times k peer) os) in
        ap (λ (n : ℕ). owed_by (cond (n == peer) (Some (told_times k peer o)) rests)) (told-peer k peer o)
        ∙ ap (λ (b : Bool). owed_by (cond b (Some (told_times k peer o)) rests)) e
        ∙ rest
        ∙ sym (ap (λ (b : Bool). drop k (owed_by (cond b (Some o) (find (λ (x : Owing). x.peer == peer) os)))) e)

-- of all others nothing changes
told-other : (k peer n : ℕ) (o : Owing) → (n ≡ peer → ⊥) → o.peer ≡ n → told_times k peer o ≡ o
told-other k peer n o differ is = ap (λ (b : Bool). cond b (record o { owed = drop k o.owed }) o) (ne_eqb o.peer peer (λ same. differ (sym is ∙ same)))

pub owed-other : (k peer n : ℕ) (os : List Owing) → (n ≡ peer → ⊥) → owed_by (find (λ o. o.peer == n) (map (told_times k peer) os)) ≡ owed_by (find (λ o. o.peer == n) os)
owed-other k peer n [] differ = refl
owed-other k peer n (o ∷ os) differ = go (o.peer == n) refl (owed-other k peer n os differ)
  where
    go : (b : Bool) → (o.peer == n) ≡ b → owed_by (find (λ x. x.peer == n) (map (told_times k peer) os)) ≡ owed_by (find (λ x. x.peer == n) os)
        → owed_by (find (λ x. x.peer == n) (map (told_times k peer) (o ∷ os))) ≡ owed_by (find (λ x. x.peer == n) (o ∷ os))
    go true e rest =
        let rests = find (λ (x : Owing). x.peer == n) (map (told_times k peer) os) in
        ap (λ (x : Owing). owed_by (cond (x.peer == n) (Some x) rests)) (told-other k peer n o differ (eqb-true o.peer n e))
        ∙ ap (λ (b : Bool). owed_by (cond b (Some o) rests)) e
        ∙ sym (ap (λ (b : Bool). owed_by (cond b (Some o) (find (λ (x : Owing). x.peer == n) os))) e)
    go false e rest =
        let rests = find (λ (x : Owing). x.peer == n) (map (told_times k peer) os) in
        ap (λ (m : ℕ). owed_by (cond (m == n) (Some (told_times k peer o)) rests)) (told-peer k peer o)
        ∙ ap (λ (b : Bool). owed_by (cond b (Some (told_times k peer o)) rests)) e
        ∙ rest
        ∙ sym (ap (λ (b : Bool). owed_by (cond b (Some o) (find (λ (x : Owing). x.peer == n) os))) e)

-- ---- filters

pub filter-same : {X : Type 0} (p q : X → Bool) → ((x : X) → p x ≡ q x) → (xs : List X) → filter p xs ≡ filter q xs
filter-same p q same [] = refl
filter-same {X} p q same (x ∷ xs) = ap (λ (b : Bool). cond b (x ∷ filter p xs) (filter p xs)) (same x) ∙ ap (λ (ys : List X). cond (q x) (x ∷ ys) ys) (filter-same p q same xs)

filter-passes : {X : Type 0} (p : X → Bool) (xs : List X) → AllByRecursion (λ x. p x ≡ true) (filter p xs)
filter-passes p [] = tt
filter-passes {X} p (x ∷ xs) = go (p x) refl (filter-passes p xs)
  where
    go : (b : Bool) → p x ≡ b → AllByRecursion (λ y. p y ≡ true) (filter p xs) → AllByRecursion (λ y. p y ≡ true) (cond b (x ∷ filter p xs) (filter p xs))
    go true e rest = (e, rest)
    go false e rest = rest

-- what passes the one passes the other too
filter-less : {X : Type 0} (p q : X → Bool) → ((x : X) → q x ≡ true → p x ≡ true) → (xs : List X) → filter q (filter p xs) ≡ filter q xs
filter-less p q less [] = refl
filter-less {X} p q less (x ∷ xs) = go (p x) (q x) refl refl (filter-less p q less xs)
  where
    go : (b c : Bool) → p x ≡ b → q x ≡ c → filter q (filter p xs) ≡ filter q xs → filter q (cond b (x ∷ filter p xs) (filter p xs)) ≡ cond c (x ∷ filter q xs) (filter q xs)
    go true true ep eq rest = ap (λ (b : Bool). cond b (x ∷ filter q (filter p xs)) (filter q (filter p xs))) eq ∙ ap (λ (ys : List X). x ∷ ys) rest
    go true false ep eq rest = ap (λ (b : Bool). cond b (x ∷ filter q (filter p xs)) (filter q (filter p xs))) eq ∙ rest
    go false true ep eq rest = absurd (both_ways (p x) ep (less x eq))
    go false false ep eq rest = rest

-- ---- which ends are owed

or-less : (a b c d : Bool) → (a ≡ true → c ≡ true) → (b ≡ true → d ≡ true) → (a || b) ≡ true → (c || d) ≡ true
or-less true b c d left right e = ap (λ (x : Bool). x || d) (left refl)
or-less false b true d left right e = refl
or-less false b false d left right e = right e

any-dropped : (a k : ℕ) (xs : List Announced) → list_any (tells_gone a) (drop k xs) ≡ true → list_any (tells_gone a) xs ≡ true
any-dropped a zero xs e = e
any-dropped a (suc k) [] e = e
any-dropped a (suc k) (x ∷ xs) e = or-less false (list_any (tells_gone a) xs) (tells_gone a x) (list_any (tells_gone a) xs) (λ h. absurd cc) (λ h. h) (any-dropped a k xs e)

gone-told : (a k peer : ℕ) (o : Owing) → owes_gone a (told_times k peer o) ≡ true → owes_gone a o ≡ true
gone-told a k peer o = go (o.peer == peer)
  where
    go : (b : Bool) → owes_gone a (cond b (record o { owed = drop k o.owed }) o) ≡ true → owes_gone a o ≡ true
    go true e = any-dropped a k o.owed e
    go false e = e

any-told : (a k peer : ℕ) (os : List Owing) → list_any (owes_gone a) (map (told_times k peer) os) ≡ true → list_any (owes_gone a) os ≡ true
any-told a k peer [] e = e
any-told a k peer (o ∷ os) e =
    or-less (owes_gone a (told_times k peer o)) (list_any (owes_gone a) (map (told_times k peer) os)) (owes_gone a o) (list_any (owes_gone a) os) (gone-told a k peer o) (any-told a k peer os) e

used-told : (k peer : ℕ) (os : List Owing) (x : Record) → is_in_use (map (told_times k peer) os) x ≡ true → is_in_use os x ≡ true
used-told k peer os x e = or-less x.live (list_any (owes_gone x.address) (map (told_times k peer) os)) x.live (list_any (owes_gone x.address) os) (λ h. h) (any-told x.address k peer os) e

-- ---- the table

-- the table where these are owed: records that are in use no more go
abbrev pub with_owing : Table → List Owing → Table
with_owing t os = record t { owing = os; records = filter (is_in_use os) t.records }

abbrev pub AreUsed : List Owing → List Record → Type 0
AreUsed os records = AllByRecursion (λ x. is_in_use os x ≡ true) records

with-same : (t : Table) (os : List Owing) → os ≡ t.owing → AreUsed t.owing t.records → t ≡ with_owing t os
with-same t os is used =
    ap (λ (xs : List Record). record t { records = xs }) (sym (filter-every (is_in_use t.owing) t.records used))
    ∙ ap (λ (o : List Owing). with_owing t o) (sym is)

pub paid-is : (k : ℕ) (t : Table) (peer : ℕ) → AreUsed t.owing t.records → paid_times k t peer ≡ with_owing t (map (told_times k peer) t.owing)
paid-is zero t peer used = with-same t (map (told_times 0 peer) t.owing) (none-told peer t.owing) used
paid-is (suc k) t peer used =
    let os = map (told_oldest peer) t.owing in
    let later = map (told_times k peer) os in
    paid-is k (paid_to t peer) peer (filter-passes (is_in_use os) t.records)
    ∙ ap (λ (xs : List Record). record t { owing = later; records = xs }) (filter-less (is_in_use os) (is_in_use later) (used-told k peer os) t.records)
    ∙ ap (λ (o : List Owing). with_owing t o) (all-told k peer t.owing)

-- the ends that are still owed
pub ended-left : (os : List Owing) (rs : List Record) → ended_in (filter (is_in_use os) rs) ≡ filter (λ a. list_any (owes_gone a) os) (ended_in rs)
ended-left os [] = refl
ended-left os (r ∷ rs) = go r.live (list_any (owes_gone r.address) os) refl refl (ended-left os rs)
  where
    go : (l g : Bool) → r.live ≡ l → list_any (owes_gone r.address) os ≡ g → ended_in (filter (is_in_use os) rs) ≡ filter (λ a. list_any (owes_gone a) os) (ended_in rs)
        → ended_in (filter (is_in_use os) (r ∷ rs)) ≡ filter (λ a. list_any (owes_gone a) os) (ended_in (r ∷ rs))
    go true g el eg rest =
        ap (λ (x : Bool). ended_in (cond (x || list_any (owes_gone r.address) os) (r ∷ filter (is_in_use os) rs) (filter (is_in_use os) rs))) el
        ∙ ap (λ (x : Bool). map (λ (y : Record). y.address) (cond (not x) (r ∷ filter (λ (y : Record). not y.live) (filter (is_in_use os) rs)) (filter (λ (y : Record). not y.live) (filter (is_in_use os) rs)))) el
        ∙ rest
        ∙ sym (ap (λ (x : Bool). filter (λ (a : ℕ). list_any (owes_gone a) os) (map (λ (y : Record). y.address) (cond (not x) (r ∷ filter (λ (y : Record). not y.live) rs) (filter (λ (y : Record). not y.live) rs)))) el)
    go false true el eg rest =
        ap (λ (x : Bool). ended_in (cond (x || list_any (owes_gone r.address) os) (r ∷ filter (is_in_use os) rs) (filter (is_in_use os) rs))) el
        ∙ ap (λ (x : Bool). ended_in (cond x (r ∷ filter (is_in_use os) rs) (filter (is_in_use os) rs))) eg
        ∙ ap (λ (x : Bool). map (λ (y : Record). y.address) (cond (not x) (r ∷ filter (λ (y : Record). not y.live) (filter (is_in_use os) rs)) (filter (λ (y : Record). not y.live) (filter (is_in_use os) rs)))) el
        ∙ ap (λ (xs : List ℕ). r.address ∷ xs) rest
        ∙ sym (ap (λ (x : Bool). cond x (r.address ∷ filter (λ (a : ℕ). list_any (owes_gone a) os) (ended_in rs)) (filter (λ (a : ℕ). list_any (owes_gone a) os) (ended_in rs))) eg)
        ∙ sym (ap (λ (x : Bool). filter (λ (a : ℕ). list_any (owes_gone a) os) (map (λ (y : Record). y.address) (cond (not x) (r ∷ filter (λ (y : Record). not y.live) rs) (filter (λ (y : Record). not y.live) rs)))) el)
    go false false el eg rest =
        ap (λ (x : Bool). ended_in (cond (x || list_any (owes_gone r.address) os) (r ∷ filter (is_in_use os) rs) (filter (is_in_use os) rs))) el
        ∙ ap (λ (x : Bool). ended_in (cond x (r ∷ filter (is_in_use os) rs) (filter (is_in_use os) rs))) eg
        ∙ rest
        ∙ sym (ap (λ (x : Bool). cond x (r.address ∷ filter (λ (a : ℕ). list_any (owes_gone a) os) (ended_in rs)) (filter (λ (a : ℕ). list_any (owes_gone a) os) (ended_in rs))) eg)
        ∙ sym (ap (λ (x : Bool). filter (λ (a : ℕ). list_any (owes_gone a) os) (map (λ (y : Record). y.address) (cond (not x) (r ∷ filter (λ (y : Record). not y.live) rs) (filter (λ (y : Record). not y.live) rs)))) el)

-- both tables of a domain still tell the same endpoints
pub tied-told : (r : Records) (t : Table) (k peer : ℕ) (peers : List ℕ) → AreTied r t peers → AreTied r (with_owing t (map (told_times k peer) t.owing)) peers
tied-told r t k peer peers tied =
    let os = map (told_times k peer) t.owing in
    record {
      domain = tied.domain;
      given = tied.given;
      live = filter-less (is_in_use os) (λ (x : Record). x.live) (λ x e. ap (λ (b : Bool). b || list_any (owes_gone x.address) os) e) t.records ∙ tied.live;
      rising = rising-filter (is_in_use os) t.records tied.rising;
      below = all-filter (λ (x : Record). x.address < 1024 + t.given) (is_in_use os) t.records tied.below;
      used = filter-passes (is_in_use os) t.records;
      linked = told-peers k peer t.owing ∙ tied.linked;
    }
