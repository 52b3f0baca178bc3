-- A table after each of its changes.
use Rattle.std.proofs.Common.{◌≡◌, ◌<◌, ◌≤◌, ◌+◌, ◌∙◌, ℕ, Bool, true, false, not, List, [], ◌∷◌, ◌++◌, length, map, drop, cond, refl, sym, ap, subst, inl, inr, arith}
use Rattle.std.specs.Prelude.{◌==◌, filter, find, None, Some, vec_capacity, Vec}
use Rattle.std.specs.List.{AllByRecursion, list_any}
use Rattle.std.specs.VecDeque.{deque_capacity}
use Rattle.std.specs.Vec.{with_items}
use Rattle.std.proofs.lemmas.List.{length_push, length-map, with_items_is}
use Rattle.mc_base.specs.Limits.{record_limit, creation_limit, first_address, announcement_limit}
use Rattle.mc_base.specs.declared.name.Local.{Local}
use Rattle.mc_base.specs.NameMap.{learned, forgotten}
use Rattle.endpoint_table.specs.declared.record.Record.{Record}
use Rattle.endpoint_table.specs.declared.announced.Announced.{Announced}
use Rattle.endpoint_table.specs.declared.debts.Debt.{Debt}
use Rattle.endpoint_table.specs.declared.table.EndpointTable.TheInside.{Inside}
use Rattle.endpoint_table.specs.Table.{Table, Owing, is_in_use, is_live_at, ended, also_owing, told_oldest, nothing_owed, opening_table, created, deleted, paid_to, ended_in}
use Rattle.endpoint_table.specs.InTable.{table_of, debt_of_none, owing_in, one_more, one_less, owes, settled_events, settled_records, without_ended, IsOrderly, IsTight, HasBounds, IsIndexed, IsKept, name_in}
use Rattle.endpoint_table.proofs.RecordLemmas.{all-weaken, most_owed-most, most_owed-ended}
use Rattle.endpoint_table.proofs.DebtLemmas.{IsNear, nearly-told, nearly-all, within-told, within-announced, owed-all-announced, settled-tight, owing-told, owing-announced, owing-settled}
use Rattle.endpoint_table.proofs.IndexLemmas.{indexed-none, indexed-created, indexed-ended, indexed-settled}
use Rattle.endpoint_table.proofs.OrderLemmas.{orderly-created, orderly-ended, orderly-settled, freed-settled}

abbrev table-as : ℕ → ℕ → List Record → List Owing → ℕ → Table
table-as domain nodes records owing given = record { domain = domain; nodes = nodes; records = records; owing = owing; given = given }

length-filter-le : {X : Type 0} (p : X → Bool) (xs : List X) → length (filter p xs) ≤ length xs
length-filter-le p [] = omega arith
length-filter-le p (x ∷ xs) = let rest = length-filter-le p xs in elim (p x) as (λ b. length (cond b (x ∷ filter p xs) (filter p xs)) ≤ length (x ∷ xs)) [ true ↦ omega arith | false ↦ omega arith ]

fewer-left : (rs : List Record) (es : List Announced) → length (without_ended rs es) ≤ length rs
fewer-left rs [] = omega arith
fewer-left rs (e ∷ es) =
    let kept = filter (λ (r : Record). not (r.address == e.address)) rs in
    let rest = length-filter-le (λ (r : Record). not (r.address == e.address)) rs in
    elim e.create as (λ b. length (cond b rs kept) ≤ length rs) [ true ↦ omega arith | false ↦ rest ]

no-more : (rs : List Record) (es : List Announced) (ds : List Debt) → length (settled_records rs es ds) ≤ length rs
no-more rs es ds = elim (list_any (owes (length es)) ds) as (λ b. length (cond b rs (without_ended rs es)) ≤ length rs) [ true ↦ omega arith | false ↦ fewer-left rs es ]

-- what is written over all elements of a vector
pub written-items : {X Z : Type 0} (v : Vec X Z) (ws : List X) (f : X → X) → ws ≡ map f v.items → (with_items v ws).items ≡ map f v.items
written-items v ws f is = with_items_is v ws (ap length is ∙ length-map v.items f ∙ sym v.ok.0) ∙ is

-- ---- at the opening

none-within : (peers : List ℕ) → AllByRecursion (λ d. d.owed ≤ 0) (map debt_of_none peers)
none-within [] = tt
none-within (p ∷ ps) = (omega arith, none-within ps)

owing-none : (peers : List ℕ) → owing_in [] (map debt_of_none peers) ≡ map nothing_owed peers
owing-none [] = refl
owing-none (p ∷ ps) = ap (λ (os : List Owing). nothing_owed p ∷ os) (owing-none ps)

pub kept-new : (t : Inside) (peers : List ℕ) → t.records.items ≡ [] → t.live ≡ [] → t.events.items ≡ [] → t.debts.items ≡ map debt_of_none peers → t.given ≡ 0 → record_limit ≤ vec_capacity t.records → announcement_limit ≤ deque_capacity t.events → IsKept t
kept-new t peers records live events debts given record_room event_room =
    let next : first_address + 0 ≡ first_address = omega arith in
    let orderly : IsOrderly [] [] (first_address + 0) = record { rising = tt; below = tt; from = first_address; ordered = sym next; weighed = omega arith; marked = tt } in
    let tight : IsTight [] (map debt_of_none peers) = record { within = none-within peers; tight = inl refl } in
    record {
      orderly = rw (records, events, given) orderly;
      tight = rw (events, debts) tight;
      indexed = rw (records, live) (indexed-none t.domain);
      few = rw records (omega arith);
      given = omega arith;
      record_room = record_room;
      event_room = event_room;
    }

pub view-new : (t : Inside) (domain nodes : ℕ) (peers : List ℕ) → t.records.items ≡ [] → t.events.items ≡ [] → t.debts.items ≡ map debt_of_none peers → t.given ≡ 0 → t.domain ≡ domain → t.nodes ≡ nodes → table_of t ≡ opening_table domain nodes peers
view-new t domain nodes peers records events debts given is_domain is_nodes =
    rw (records, events, debts, given, is_domain, is_nodes) (ap (λ (os : List Owing). table-as domain nodes [] os 0) (owing-none peers))

-- what is owed fits its type
pub debts-fit : (t : Inside) → IsKept t → AllByRecursion (λ d. d.owed < 9223372036854775808) t.debts.items
debts-fit t k =
    let o = k.orderly in
    let most : length t.events.items ≤ 128 = omega (arith, k.few, o.weighed, most_owed-most o.from t.records.items) in
    all-weaken (λ (d : Debt). d.owed ≤ length t.events.items) (λ (d : Debt). d.owed < 9223372036854775808) (λ d le. omega arith) t.debts.items k.tight.within

-- ---- an announcement was told

near-told : (es : List Announced) (ds : List Debt) (peer : ℕ) → IsTight es ds → IsNear es (map (one_less peer) ds)
near-told es ds peer tight = elim tight.tight [
  | inl empty ↦ inl (ap (λ (xs : List Announced). drop 1 xs) empty)
  | inr all ↦ inr (nearly-told (length es) peer ds all)
]

tight-told : (es : List Announced) (ds : List Debt) (peer : ℕ) → IsTight es ds → IsTight (settled_events es (map (one_less peer) ds)) (map (one_less peer) ds)
tight-told es ds peer tight = settled-tight es (map (one_less peer) ds) (within-told (length es) peer ds tight.within) (near-told es ds peer tight)

pub kept-told : (t u : Inside) (peer : ℕ) → IsKept t → u.domain ≡ t.domain → u.live ≡ t.live → u.debts.items ≡ map (one_less peer) t.debts.items → u.events.items ≡ settled_events t.events.items (map (one_less peer) t.debts.items) → u.records.items ≡ settled_records t.records.items t.events.items (map (one_less peer) t.debts.items) → vec_capacity u.records ≡ vec_capacity t.records → deque_capacity u.events ≡ deque_capacity t.events → u.given ≡ t.given → IsKept u
kept-told t u peer k domain live debts events records record_room event_room given =
    let ds = map (one_less peer) t.debts.items in
    let orderly = orderly-settled t.records.items t.events.items ds (first_address + t.given) k.orderly in
    let tight = tight-told t.events.items t.debts.items peer k.tight in
    let less = no-more t.records.items t.events.items ds in
    record {
      orderly = rw (records, events, given) orderly;
      tight = rw (events, debts) tight;
      indexed = rw (domain, records, live) (indexed-settled t.domain t.records.items t.events.items ds t.live k.orderly.marked k.indexed);
      few = rw records (omega (arith, k.few, less));
      given = omega (arith, k.given);
      record_room = omega (arith, k.record_room);
      event_room = omega (arith, k.event_room);
    }

pub view-told : (t u : Inside) (peer : ℕ) → IsKept t → u.debts.items ≡ map (one_less peer) t.debts.items → u.events.items ≡ settled_events t.events.items (map (one_less peer) t.debts.items) → u.records.items ≡ settled_records t.records.items t.events.items (map (one_less peer) t.debts.items) → u.given ≡ t.given → u.domain ≡ t.domain → u.nodes ≡ t.nodes → table_of u ≡ paid_to (table_of t) peer
view-told t u peer k debts events records given domain nodes =
    let rs = t.records.items in
    let es = t.events.items in
    let ds = map (one_less peer) t.debts.items in
    let tight = tight-told es t.debts.items peer k.tight in
    let owing : owing_in (settled_events es ds) ds ≡ map (told_oldest peer) (owing_in es t.debts.items) =
    owing-settled es ds (within-told (length es) peer t.debts.items k.tight.within) ∙ owing-told es peer t.debts.items k.tight.within in
    let left : settled_records rs es ds ≡ filter (is_in_use (map (told_oldest peer) (owing_in es t.debts.items))) rs =
    sym (freed-settled rs es ds (first_address + t.given) k.orderly tight) ∙ ap (λ (os : List Owing). filter (is_in_use os) rs) owing in
    rw (records, events, debts, given, domain, nodes)
    (ap (λ (xs : List Record). table-as t.domain t.nodes xs (owing_in (settled_events es ds) ds) t.given) left
    ∙ ap (λ (os : List Owing). table-as t.domain t.nodes (filter (is_in_use (map (told_oldest peer) (owing_in es t.debts.items))) rs) os t.given) owing)

-- ---- an announcement more

near-announced : (es : List Announced) (e : Announced) (ds : List Debt) → IsTight es ds → IsNear (es ++ e ∷ []) (map one_more ds)
near-announced es e ds tight = elim tight.tight [
  | inl empty ↦ inl (ap (λ (xs : List Announced). drop 1 (xs ++ e ∷ [])) empty)
  | inr all ↦ inr (nearly-all (length (es ++ e ∷ [])) (map one_more ds) (owed-all-announced (length es) (length (es ++ e ∷ [])) ds (length_push es e) all))
]

within-one_more : (es : List Announced) (e : Announced) (ds : List Debt) → IsTight es ds → AllByRecursion (λ d. d.owed ≤ length (es ++ e ∷ [])) (map one_more ds)
within-one_more es e ds tight = within-announced (length es) (length (es ++ e ∷ [])) ds (length_push es e) tight.within

tight-announced : (es : List Announced) (e : Announced) (ds : List Debt) → IsTight es ds → IsTight (settled_events (es ++ e ∷ []) (map one_more ds)) (map one_more ds)
tight-announced es e ds tight = settled-tight (es ++ e ∷ []) (map one_more ds) (within-one_more es e ds tight) (near-announced es e ds tight)

owing-after : (es : List Announced) (e : Announced) (ds : List Debt) → IsTight es ds → owing_in (settled_events (es ++ e ∷ []) (map one_more ds)) (map one_more ds) ≡ map (also_owing e) (owing_in es ds)
owing-after es e ds tight = owing-settled (es ++ e ∷ []) (map one_more ds) (within-one_more es e ds tight) ∙ owing-announced es e ds tight.within

-- ---- a creation

pub room-to-create : (t : Inside) → IsKept t → length t.records.items < record_limit → length t.events.items < announcement_limit
room-to-create t k few = let o = k.orderly in omega (arith, o.weighed, most_owed-most o.from t.records.items)

pub kept-created : (t u : Inside) (r : Record) (e : Announced) → IsKept t → HasBounds r → find (is_live_at r.local) t.records.items ≡ None → u.domain ≡ t.domain → u.live ≡ learned (name_in t.domain r.local) r.address t.live → length t.records.items < record_limit → t.given < creation_limit → r.address ≡ first_address + t.given → r.live ≡ true → e.address ≡ first_address + t.given → e.create ≡ true → u.debts.items ≡ map one_more t.debts.items → u.events.items ≡ settled_events (t.events.items ++ e ∷ []) (map one_more t.debts.items) → u.records.items ≡ settled_records (t.records.items ++ r ∷ []) (t.events.items ++ e ∷ []) (map one_more t.debts.items) → record_limit ≤ vec_capacity u.records → deque_capacity u.events ≡ deque_capacity t.events → u.given ≡ t.given + 1 → IsKept u
kept-created t u r e k fits none domain addresses few more at live told there debts events records record_room event_room given =
    let rs = t.records.items ++ r ∷ [] in
    let es = t.events.items ++ e ∷ [] in
    let ds = map one_more t.debts.items in
    let before = orderly-created t.records.items t.events.items (first_address + t.given) r e k.orderly at live told there in
    let next : (first_address + t.given) + 1 ≡ first_address + (t.given + 1) = omega arith in
    let orderly = subst (IsOrderly (settled_records rs es ds) (settled_events es ds)) next (orderly-settled rs es ds ((first_address + t.given) + 1) before) in
    let tight = tight-announced t.events.items e t.debts.items k.tight in
    let less = no-more rs es ds in
    record {
      orderly = rw (records, events, given) orderly;
      tight = rw (events, debts) tight;
      indexed = rw (domain, records, addresses) (indexed-settled t.domain rs es ds _ before.marked (indexed-created t.domain t.records.items r t.live k.indexed none live fits));
      few = rw records (omega (arith, length_push t.records.items r, less));
      given = omega arith;
      record_room = record_room;
      event_room = omega (arith, k.event_room);
    }

-- no record goes at a creation
none-goes : (rs : List Record) (es : List Announced) (e : Announced) (ds : List Debt) → IsTight es ds → e.create ≡ true → settled_records rs (es ++ e ∷ []) (map one_more ds) ≡ rs
none-goes rs es e ds tight there = elim tight.tight [
  | inr all ↦ ap (λ b. cond b rs (without_ended rs (es ++ e ∷ []))) (owed-all-announced (length es) (length (es ++ e ∷ [])) ds (length_push es e) all)
  | inl empty ↦
      let stay : without_ended rs (es ++ e ∷ []) ≡ rs =
      ap (λ (xs : List Announced). without_ended rs (xs ++ e ∷ [])) empty
      ∙ ap (λ b. cond b rs (filter (λ (r : Record). not (r.address == e.address)) rs)) there in
      either (list_any (owes (length (es ++ e ∷ []))) (map one_more ds)) (without_ended rs (es ++ e ∷ [])) stay
]
  where
    either : (b : Bool) (left : List Record) → left ≡ rs → cond b rs left ≡ rs
    either true left is = refl
    either false left is = is

pub view-created : (t u : Inside) (local : Local) (r : Record) (e : Announced) → IsKept t → r ≡ record { local = local; address = first_address + t.given; live = true } → e ≡ record { local = local; address = first_address + t.given; create = true } → u.debts.items ≡ map one_more t.debts.items → u.events.items ≡ settled_events (t.events.items ++ e ∷ []) (map one_more t.debts.items) → u.records.items ≡ settled_records (t.records.items ++ r ∷ []) (t.events.items ++ e ∷ []) (map one_more t.debts.items) → u.given ≡ t.given + 1 → u.domain ≡ t.domain → u.nodes ≡ t.nodes → table_of u ≡ created (table_of t) local
view-created t u local r e k is told debts events records given domain nodes =
    let rs = t.records.items ++ r ∷ [] in
    let es = t.events.items ++ e ∷ [] in
    let ds = map one_more t.debts.items in
    let there : e.create ≡ true = ap (λ (a : Announced). a.create) told in
    let owing : owing_in (settled_events es ds) ds ≡ map (also_owing e) (owing_in t.events.items t.debts.items) = owing-after t.events.items e t.debts.items k.tight in
    let stay : settled_records rs es ds ≡ rs = none-goes rs t.events.items e t.debts.items k.tight there in
    rw (records, events, debts, given, domain, nodes)
    (ap (λ (xs : List Record). table-as t.domain t.nodes xs (owing_in (settled_events es ds) ds) (t.given + 1)) stay
    ∙ ap (λ (os : List Owing). table-as t.domain t.nodes rs os (t.given + 1)) owing
    ∙ ap (λ (x : Record). table-as t.domain t.nodes (t.records.items ++ x ∷ []) (map (also_owing e) (owing_in t.events.items t.debts.items)) (t.given + 1)) is
    ∙ ap (λ (a : Announced). table-as t.domain t.nodes (t.records.items ++ record { local = local; address = first_address + t.given; live = true } ∷ []) (map (also_owing a) (owing_in t.events.items t.debts.items)) (t.given + 1)) told)

-- ---- an end

pub room-to-end : (t : Inside) (local : Local) (r : Record) → IsKept t → find (is_live_at local) t.records.items ≡ Some r → length t.events.items < announcement_limit
room-to-end t local r k found =
    let o = k.orderly in
    omega (arith, k.few, o.weighed, most_owed-ended o.from local t.records.items r found, most_owed-most o.from (map (ended r.address) t.records.items), length-map t.records.items (ended r.address))

pub kept-ended : (t u : Inside) (local : Local) (r : Record) (e : Announced) → IsKept t → local.node < 256 → local.port < 65536 → u.domain ≡ t.domain → u.live ≡ forgotten (name_in t.domain local) t.live → find (is_live_at local) t.records.items ≡ Some r → e.address ≡ r.address → e.create ≡ false → u.debts.items ≡ map one_more t.debts.items → u.events.items ≡ settled_events (t.events.items ++ e ∷ []) (map one_more t.debts.items) → u.records.items ≡ settled_records (map (ended e.address) t.records.items) (t.events.items ++ e ∷ []) (map one_more t.debts.items) → vec_capacity u.records ≡ vec_capacity t.records → deque_capacity u.events ≡ deque_capacity t.events → u.given ≡ t.given → IsKept u
kept-ended t u local r e k node port domain addresses found at gone debts events records record_room event_room given =
    let rs = map (ended e.address) t.records.items in
    let es = t.events.items ++ e ∷ [] in
    let ds = map one_more t.debts.items in
    let before = orderly-ended t.records.items t.events.items (first_address + t.given) local r e k.orderly found at gone in
    let orderly = orderly-settled rs es ds (first_address + t.given) before in
    let tight = tight-announced t.events.items e t.debts.items k.tight in
    let less = no-more rs es ds in
    record {
      orderly = rw (records, events, given) orderly;
      tight = rw (events, debts) tight;
      indexed = rw (domain, records, addresses) (indexed-settled t.domain rs es ds _ before.marked (subst (λ a. IsIndexed t.domain (map (ended a) t.records.items) (forgotten (name_in t.domain local) t.live)) (sym at) (indexed-ended t.domain local t.records.items r t.live k.indexed k.orderly.rising node port found)));
      few = rw records (omega (arith, length-map t.records.items (ended e.address), k.few, less));
      given = omega (arith, k.given);
      record_room = omega (arith, k.record_room);
      event_room = omega (arith, k.event_room);
    }

pub view-ended : (t u : Inside) (local : Local) (r : Record) (e : Announced) → IsKept t → find (is_live_at local) t.records.items ≡ Some r → e ≡ record { local = r.local; address = r.address; create = false } → u.debts.items ≡ map one_more t.debts.items → u.events.items ≡ settled_events (t.events.items ++ e ∷ []) (map one_more t.debts.items) → u.records.items ≡ settled_records (map (ended e.address) t.records.items) (t.events.items ++ e ∷ []) (map one_more t.debts.items) → u.given ≡ t.given → u.domain ≡ t.domain → u.nodes ≡ t.nodes → table_of u ≡ deleted (table_of t) local
view-ended t u local r e k found told debts events records given domain nodes =
    let rs = map (ended e.address) t.records.items in
    let es = t.events.items ++ e ∷ [] in
    let ds = map one_more t.debts.items in
    let owed = owing_in t.events.items t.debts.items in
    let at : e.address ≡ r.address = ap (λ (a : Announced). a.address) told in
    let gone : e.create ≡ false = ap (λ (a : Announced). a.create) told in
    let owing : owing_in (settled_events es ds) ds ≡ map (also_owing e) owed = owing-after t.events.items e t.debts.items k.tight in
    let before = orderly-ended t.records.items t.events.items (first_address + t.given) local r e k.orderly found at gone in
    let tight = tight-announced t.events.items e t.debts.items k.tight in
    let left : settled_records rs es ds ≡ filter (is_in_use (map (also_owing e) owed)) rs =
    sym (freed-settled rs es ds (first_address + t.given) before tight) ∙ ap (λ (os : List Owing). filter (is_in_use os) rs) owing in
    let result : table_of u ≡ ended_in (table_of t) (Some r) =
    rw (records, events, debts, given, domain, nodes)
    (ap (λ (xs : List Record). table-as t.domain t.nodes xs (owing_in (settled_events es ds) ds) t.given) left
    ∙ ap (λ (os : List Owing). table-as t.domain t.nodes (filter (is_in_use (map (also_owing e) owed)) rs) os t.given) owing
    ∙ ap (λ (a : Announced). table-as t.domain t.nodes (filter (is_in_use (map (also_owing a) owed)) (map (ended a.address) t.records.items)) (map (also_owing a) owed) t.given) told) in
    result ∙ ap (ended_in (table_of t)) (sym found)
