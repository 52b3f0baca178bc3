-- The two tables of a domain's endpoints tell the same ones, whatever is created or ended.
use Rattle.std.proofs.Common.{◌≡◌, ℕ, zero, suc, ◌+◌, ◌<◌, Bool, true, false, cond, List, [], ◌∷◌, ◌++◌, length, map, Option, Some, refl, sym, ap, ◌∙◌, subst, arith, inl, inr, eq-eqb}
use Rattle.std.specs.Prelude.{find, filter, position, slice_get, not, is_some, option_map, option_and_then, ◌&&◌, ◌==◌, nat_lt}
use Rattle.std.specs.List.{AllByRecursion, list_any}
use Rattle.std.proofs.lemmas.Bool.{and_parts, eqb-true, ne_eqb, or_cases, or_left, or_right}
use Rattle.std.proofs.lemmas.List.{length-map, map_push}
use Rattle.std.proofs.lemmas.List.Elements.{filter-append}
use Rattle.std.proofs.lemmas.List.Folds.{list_any-append}
use Rattle.std.proofs.lemmas.Option.{slice_get-map}
use Rattle.mc_base.specs.declared.name.Local.{Local}
use Rattle.endpoint_table.specs.declared.announced.Announced.{Announced}
use Rattle.endpoint_table.specs.declared.record.Record.{Record}
use Rattle.endpoint_table.specs.InTable.{IsRising}
use Rattle.endpoint_table.specs.Table as table
use Rattle.endpoint_table.specs.Table.{Table, Owing, also_owing, created, ended, is_in_use, live_at, next_address, owes_gone, tells_gone}
use Rattle.endpoint_table.proofs.RecordLemmas.{all-filter, all-map, all-push, all-weaken, ended-address, rising-ended, rising-filter, rising-push}
use Rattle.board_model.specs.Lists.{with_rising, without_at}
use Rattle.board_model.specs.State.{is_at}
use Rattle.board_model.proofs.ListsCounts.{position-tells}
use Rattle.board_model.proofs.MessageLists.{get-position, some-position}
use Rattle.board_model.proofs.WholeFinds.{find-mapped}
use Rattle.buffer_book.specs.Book.{Book}
use Rattle.domain_parts.specs.declared.endpoints.Endpoint.{Endpoint}
use Rattle.domain_parts.specs.InBook.{endpoint_in, endpoints_in}
use Rattle.domain_parts.specs.Peers.{ended_in}
use Rattle.domain_parts.specs.Records.{Records, new_record, with_record, without_record_at}
use Rattle.domain_parts.specs.Tied.{AreTied, live_record}
use Rattle.domain_parts.proofs.Filters.{every-filter, filter-every, filter-inside, find-both, length-parted, some-map}
use Rattle.domain_parts.proofs.PaidTables.{ended-left}
use Rattle.domain_parts.proofs.Tables.{position-map}

abbrev pub is_live : Record → Bool
is_live x = x.live

abbrev pub is_gone : Record → Bool
is_gone x = not x.live

-- the endpoint has this name
abbrev pub is_named : Local → Endpoint → Bool
is_named at e = e.local.node == at.node && e.local.port == at.port

abbrev named : Local → Record → Bool
named at x = x.local.node == at.node && x.local.port == at.port

-- ---- the live one of a name

pub place-is : (b : Book) (es : List Endpoint) (at : Local) → position (is_at at) (endpoints_in b es) ≡ position (is_named at) es
place-is b es at = sym (position-map (endpoint_in b) (is_at at) es)

live-found : (r : Records) (t : Table) (peers : List ℕ) (at : Local) → AreTied r t peers → live_at t at ≡ option_map live_record (find (is_named at) r.endpoints)
live-found r t peers at tie =
    find-both is_live (named at) t.records
    ∙ ap (find (named at)) tie.live
    ∙ find-mapped (named at) live_record r.endpoints

-- it is in both tables or in none
pub live-some : (r : Records) (t : Table) (peers : List ℕ) (b : Book) (at : Local) → AreTied r t peers → is_some (live_at t at) ≡ is_some (position (is_at at) (endpoints_in b r.endpoints))
live-some r t peers b at tie =
    ap (λ (o : Option Record). is_some o) (live-found r t peers at tie)
    ∙ some-map live_record (find (is_named at) r.endpoints)
    ∙ sym (some-position (is_named at) r.endpoints)
    ∙ ap (λ (o : Option ℕ). is_some o) (sym (place-is b r.endpoints at))

pub live-there : (r : Records) (t : Table) (peers : List ℕ) (at : Local) (i : ℕ) (e : Endpoint) → AreTied r t peers → position (is_named at) r.endpoints ≡ Some i → slice_get r.endpoints i ≡ Some e → live_at t at ≡ Some (live_record e)
live-there r t peers at i e tie place there =
    live-found r t peers at tie
    ∙ ap (option_map live_record) (sym (get-position (is_named at) r.endpoints) ∙ ap (λ (o : Option ℕ). option_and_then (λ k. slice_get r.endpoints k) o) place ∙ there)

-- at its place stands the endpoint of the name
pub named-there : (at : Local) (es : List Endpoint) (i : ℕ) → position (is_named at) es ≡ Some i → (e : Endpoint) × (slice_get es i ≡ Some e) × (e.local ≡ at)
named-there at es i place =
    let found = position-tells (is_named at) es i place in
    let e = found.0 in
    let parts = and_parts (e.local.node == at.node) (e.local.port == at.port) found.2 in
    (e, found.1, ap (λ (n : ℕ). the n e.local.port) (eqb-true e.local.node at.node parts.0) ∙ ap (λ (n : ℕ). the at.node n) (eqb-true e.local.port at.port parts.1))
  where
    the : ℕ → ℕ → Local
    the node port = record { node = node; port = port }

-- ---- how many records are in use

pub length-records : (r : Records) (t : Table) (peers : List ℕ) (b : Book) → AreTied r t peers → length (endpoints_in b r.endpoints) + length (ended_in t.records) ≡ length t.records
length-records r t peers b tie =
    let parted = length-parted is_live t.records in
    let lives = ap length tie.live ∙ length-map r.endpoints live_record in
    omega (arith, parted, lives, length-map r.endpoints (endpoint_in b), length-map (filter is_gone t.records) (λ (x : Record). x.address))

-- ---- what is owed

also-peers : (a : Announced) (os : List Owing) → map (λ (o : Owing). o.peer) (map (also_owing a) os) ≡ map (λ (o : Owing). o.peer) os
also-peers a [] = refl
also-peers a (o ∷ os) = ap (λ (ns : List ℕ). o.peer ∷ ns) (also-peers a os)

-- what is owed stays owed as more is
gone-stays : (a : Announced) (address : ℕ) (os : List Owing) → list_any (owes_gone address) os ≡ true → list_any (owes_gone address) (map (also_owing a) os) ≡ true
gone-stays a address [] some = absurd cc
gone-stays a address (o ∷ os) some = elim (or_cases (owes_gone address o) (list_any (owes_gone address) os) some) [
  | inl here ↦ or_left (owes_gone address (also_owing a o)) (list_any (owes_gone address) (map (also_owing a) os)) (list_any-append (tells_gone address) o.owed (a ∷ []) ∙ or_left (owes_gone address o) (list_any (tells_gone address) (a ∷ [])) here)
  | inr later ↦ or_right (owes_gone address (also_owing a o)) (list_any (owes_gone address) (map (also_owing a) os)) (gone-stays a address os later)
]

used-stays : (a : Announced) (os : List Owing) (x : Record) → is_in_use os x ≡ true → is_in_use (map (also_owing a) os) x ≡ true
used-stays a os x used = elim (or_cases x.live (list_any (owes_gone x.address) os) used) [
  | inl live ↦ or_left x.live (list_any (owes_gone x.address) (map (also_owing a) os)) live
  | inr owed ↦ or_right x.live (list_any (owes_gone x.address) (map (also_owing a) os)) (gone-stays a x.address os owed)
]

-- ---- an endpoint is made

abbrev pub made_record : Table → Local → Record
made_record t at = record { local = at; address = next_address t; live = true }

abbrev pub made_event : Table → Local → Announced
made_event t at = record { local = at; address = next_address t; create = true }

all-used : (r : Records) (t : Table) (peers : List ℕ) (at : Local) → AreTied r t peers → AllByRecursion (λ x. is_in_use (created t at).owing x ≡ true) (created t at).records
all-used r t peers at tie =
    let os = map (also_owing (made_event t at)) t.owing in
    all-push (λ (x : Record). is_in_use os x ≡ true) t.records (made_record t at)
    (all-weaken (λ (x : Record). is_in_use t.owing x ≡ true) (λ (x : Record). is_in_use os x ≡ true) (λ x used. used-stays (made_event t at) t.owing x used) t.records tie.used)
    refl

pub tied-created : (r : Records) (t : Table) (peers : List ℕ) (at : Local) → AreTied r t peers → AreTied (with_record r at) (created t at) peers
tied-created r t peers at tie =
    let new = made_record t at in
    record {
      domain = tie.domain;
      given = ap (λ (n : ℕ). n + 1) tie.given;
      live = filter-append is_live t.records (new ∷ [])
          ∙ ap (λ (xs : List Record). xs ++ new ∷ []) tie.live
          ∙ ap (λ (n : ℕ). map live_record r.endpoints ++ record { local = at; address = 1024 + n; live = true } ∷ []) tie.given
          ∙ sym (map_push live_record r.endpoints (new_record r.room at (1024 + r.given)));
      rising = rising-push t.records new tie.rising tie.below;
      below = all-push (λ (x : Record). x.address < 1024 + (t.given + 1)) t.records new
          (all-weaken (λ (x : Record). x.address < 1024 + t.given) (λ (x : Record). x.address < 1024 + (t.given + 1)) (λ x lt. omega (arith, lt)) t.records tie.below)
          (omega arith);
      used = all-used r t peers at tie;
      linked = also-peers (made_event t at) t.owing ∙ tie.linked;
    }

-- no more endpoints are gone
pub ended-created : (r : Records) (t : Table) (peers : List ℕ) (at : Local) → AreTied r t peers → ended_in (created t at).records ≡ filter (λ a. list_any (owes_gone a) (created t at).owing) (ended_in t.records)
ended-created r t peers at tie =
    let os = (created t at).owing in
    ap ended_in (sym (filter-every (is_in_use os) (created t at).records (all-used r t peers at tie)))
    ∙ ended-left os (created t at).records
    ∙ ap (filter (λ a. list_any (owes_gone a) os)) (ap (map (λ (x : Record). x.address)) (filter-append is_gone t.records (made_record t at ∷ []) ∙ nothing (filter is_gone t.records)))
  where
    nothing : (xs : List Record) → xs ++ [] ≡ xs
    nothing [] = refl
    nothing (x ∷ xs) = ap (λ (ys : List Record). x ∷ ys) (nothing xs)

-- ---- an endpoint is ended

abbrev pub gone_event : Endpoint → Announced
gone_event e = record { local = e.local; address = e.address; create = false }

abbrev pub ended_table : Table → Endpoint → Table
ended_table t e = table.ended_in t (Some (live_record e))

above-stay : (a : ℕ) (xs : List Record) → AllByRecursion (λ x. a < x.address) xs → filter (λ x. not (x.address == a)) xs ≡ xs
above-stay a [] all = refl
above-stay a (x ∷ xs) all =
    ap (λ (b : Bool). cond (not b) (x ∷ filter (λ y. not (y.address == a)) xs) (filter (λ y. not (y.address == a)) xs)) (ne_eqb x.address a (λ same. omega (arith, same, all.0)))
    ∙ ap (λ (ys : List Record). x ∷ ys) (above-stay a xs all.1)

below-at : (a : ℕ) (xs : List Record) (i : ℕ) (x : Record) → AllByRecursion (λ y. a < y.address) xs → slice_get xs i ≡ Some x → a < x.address
below-at a [] i x all there = absurd cc
below-at a (y ∷ xs) zero x all there = let is : y ≡ x = cc in subst (λ (z : Record). a < z.address) is all.0
below-at a (y ∷ xs) (suc i) x all there = below-at a xs i x all.1 there

-- the record of an address stands at one place
without-address : (xs : List Record) (i : ℕ) (x : Record) → IsRising xs → slice_get xs i ≡ Some x → filter (λ y. not (y.address == x.address)) xs ≡ without_at i xs
without-address [] i x rising there = absurd cc
without-address (y ∷ xs) zero x rising there =
    let is : y ≡ x = cc in
    let rest = filter (λ (z : Record). not (z.address == x.address)) xs in
    ap (λ (b : Bool). cond (not b) (y ∷ rest) rest) (eq-eqb y.address x.address (ap (λ (z : Record). z.address) is))
    ∙ above-stay x.address xs (subst (λ (z : Record). AllByRecursion (λ w. z.address < w.address) xs) is rising.0)
without-address (y ∷ xs) (suc i) x rising there =
    let rest = filter (λ (z : Record). not (z.address == x.address)) xs in
    let lower = below-at y.address xs i x rising.0 there in
    ap (λ (b : Bool). cond (not b) (y ∷ rest) rest) (ne_eqb y.address x.address (λ same. omega (arith, same, lower)))
    ∙ ap (λ (ys : List Record). y ∷ ys) (without-address xs i x rising.1 there)

map-without : {X Y : Type 0} (f : X → Y) (i : ℕ) (xs : List X) → map f (without_at i xs) ≡ without_at i (map f xs)
map-without f i [] = refl
map-without f zero (x ∷ xs) = refl
map-without {X} {Y} f (suc i) (x ∷ xs) = ap (λ (ys : List Y). f x ∷ ys) (map-without f i xs)

-- the live ones after the end of one
live-ended : (a : ℕ) (xs : List Record) → filter is_live (map (ended a) xs) ≡ filter (λ x. not (x.address == a)) (filter is_live xs)
live-ended a [] = refl
live-ended a (x ∷ xs) = by (x.address == a) x.live refl refl (live-ended a xs)
  where
    left : List Record
    left = filter (λ y. not (y.address == a)) (filter is_live xs)

    by : (b l : Bool) → (x.address == a) ≡ b → x.live ≡ l → filter is_live (map (ended a) xs) ≡ left → filter is_live (cond b (record x { live = false }) x ∷ map (ended a) xs) ≡ filter (λ y. not (y.address == a)) (cond l (x ∷ filter is_live xs) (filter is_live xs))
    by true true is lives rest = rest ∙ sym (ap (λ (c : Bool). cond (not c) (x ∷ left) left) is)
    by true false is lives rest = rest
    by false true is lives rest =
        ap (λ (c : Bool). cond c (x ∷ filter is_live (map (ended a) xs)) (filter is_live (map (ended a) xs))) lives
        ∙ ap (λ (ys : List Record). x ∷ ys) rest
        ∙ sym (ap (λ (c : Bool). cond (not c) (x ∷ left) left) is)
    by false false is lives rest = ap (λ (c : Bool). cond c (x ∷ filter is_live (map (ended a) xs)) (filter is_live (map (ended a) xs))) lives ∙ rest

pub tied-ended : (r : Records) (t : Table) (peers : List ℕ) (i : ℕ) (e : Endpoint) → AreTied r t peers → slice_get r.endpoints i ≡ Some e → AreTied (without_record_at r i) (ended_table t e) peers
tied-ended r t peers i e tie there =
    let os = map (also_owing (gone_event e)) t.owing in
    let a = e.address in
    let left = map (ended a) t.records in
    record {
      domain = tie.domain;
      given = tie.given;
      live = filter-inside is_live (is_in_use os) (λ x live. or_left x.live (list_any (owes_gone x.address) os) live) left
          ∙ live-ended a t.records
          ∙ ap (filter (λ x. not (x.address == a))) tie.live
          ∙ without-address (map live_record r.endpoints) i (live_record e) (subst IsRising tie.live (rising-filter is_live t.records tie.rising)) (slice_get-map live_record r.endpoints i ∙ ap (option_map live_record) there)
          ∙ sym (map-without live_record i r.endpoints);
      rising = rising-filter (is_in_use os) left (rising-ended a t.records tie.rising);
      below = all-filter (λ (x : Record). x.address < 1024 + t.given) (is_in_use os) left
          (all-map (λ (x : Record). x.address < 1024 + t.given) (ended a) t.records
          (all-weaken (λ (x : Record). x.address < 1024 + t.given) (λ (x : Record). (ended a x).address < 1024 + t.given) (λ x lt. omega (arith, lt, ended-address a x)) t.records tie.below));
      used = every-filter (is_in_use os) left;
      linked = also-peers (gone_event e) t.owing ∙ tie.linked;
    }

-- ---- the addresses of those that are gone rise

rises-first : (a : ℕ) (xs : List Record) → AllByRecursion (λ x. a < x.address) xs → a ∷ ended_in xs ≡ with_rising a (ended_in xs)
rises-first a [] all = refl
rises-first a (x ∷ xs) all = by x.live (rises-first a xs all.1)
  where
    by : (b : Bool) → a ∷ ended_in xs ≡ with_rising a (ended_in xs) → a ∷ map (λ (y : Record). y.address) (cond (not b) (x ∷ filter is_gone xs) (filter is_gone xs)) ≡ with_rising a (map (λ (y : Record). y.address) (cond (not b) (x ∷ filter is_gone xs) (filter is_gone xs)))
    by true rest = rest
    by false rest =
        let less : nat_lt a x.address ≡ true = let lt = all.0 in grind (arith, lt) in
        sym (ap (λ (c : Bool). cond c (a ∷ x.address ∷ ended_in xs) (x.address ∷ with_rising a (ended_in xs))) less)

-- no other record is touched
above-same : (a : ℕ) (xs : List Record) → AllByRecursion (λ x. a < x.address) xs → map (ended a) xs ≡ xs
above-same a [] all = refl
above-same a (x ∷ xs) all =
    ap (λ (b : Bool). cond b (record x { live = false }) x ∷ map (ended a) xs) (ne_eqb x.address a (λ same. omega (arith, same, all.0)))
    ∙ ap (λ (ys : List Record). x ∷ ys) (above-same a xs all.1)

ended-rises : (a : ℕ) (xs : List Record) (i : ℕ) (x : Record) → IsRising xs → slice_get (filter is_live xs) i ≡ Some x → x.address ≡ a → ended_in (map (ended a) xs) ≡ with_rising a (ended_in xs)
ended-rises a [] i x rising there is = absurd cc
ended-rises a (y ∷ xs) i x rising there is = by y.live refl i there (λ k later. ended-rises a xs k x rising.1 later is)
  where
    rest : List ℕ
    rest = ended_in (map (ended a) xs)

    -- it stands behind
    behind : (k : ℕ) → slice_get (filter is_live xs) k ≡ Some x → y.address < a
    behind k later = let lower = below-at y.address (filter is_live xs) k x (all-filter (λ (z : Record). y.address < z.address) is_live xs rising.0) later in omega (arith, lower, is)

    other : (k : ℕ) → slice_get (filter is_live xs) k ≡ Some x → ended_in (map (ended a) (y ∷ xs)) ≡ ended_in (y ∷ map (ended a) xs)
    other k later = let lower = behind k later in ap (λ (c : Bool). ended_in (cond c (record y { live = false }) y ∷ map (ended a) xs)) (ne_eqb y.address a (λ same. omega (arith, same, lower)))

    by : (l : Bool) → y.live ≡ l → (j : ℕ) → slice_get (cond l (y ∷ filter is_live xs) (filter is_live xs)) j ≡ Some x → ((k : ℕ) → slice_get (filter is_live xs) k ≡ Some x → rest ≡ with_rising a (ended_in xs)) → ended_in (map (ended a) (y ∷ xs)) ≡ with_rising a (ended_in (y ∷ xs))
    by true lives zero there' later =
        let same : y ≡ x = cc in
        let at : y.address ≡ a = ap (λ (z : Record). z.address) same ∙ is in
        let above : AllByRecursion (λ z. a < z.address) xs = subst (λ (n : ℕ). AllByRecursion (λ z. n < z.address) xs) at rising.0 in
        ap (λ (c : Bool). ended_in (cond c (record y { live = false }) y ∷ map (ended a) xs)) (eq-eqb y.address a at)
        ∙ ap (λ (n : ℕ). n ∷ rest) at
        ∙ ap (λ (ys : List Record). a ∷ ended_in ys) (above-same a xs above)
        ∙ rises-first a xs above
        ∙ sym (ap (λ (c : Bool). with_rising a (map (λ (z : Record). z.address) (cond (not c) (y ∷ filter is_gone xs) (filter is_gone xs)))) lives)
    by true lives (suc k) there' later =
        other k there'
        ∙ ap (λ (c : Bool). map (λ (z : Record). z.address) (cond (not c) (y ∷ filter is_gone (map (ended a) xs)) (filter is_gone (map (ended a) xs)))) lives
        ∙ later k there'
        ∙ sym (ap (λ (c : Bool). with_rising a (map (λ (z : Record). z.address) (cond (not c) (y ∷ filter is_gone xs) (filter is_gone xs)))) lives)
    by false lives k there' later =
        let lower = behind k there' in
        let more : nat_lt a y.address ≡ false = grind (arith, lower) in
        other k there'
        ∙ ap (λ (c : Bool). map (λ (z : Record). z.address) (cond (not c) (y ∷ filter is_gone (map (ended a) xs)) (filter is_gone (map (ended a) xs)))) lives
        ∙ ap (λ (ns : List ℕ). y.address ∷ ns) (later k there')
        ∙ sym (ap (λ (c : Bool). cond c (a ∷ y.address ∷ ended_in xs) (y.address ∷ with_rising a (ended_in xs))) more)
        ∙ sym (ap (λ (c : Bool). with_rising a (map (λ (z : Record). z.address) (cond (not c) (y ∷ filter is_gone xs) (filter is_gone xs)))) lives)

-- one more is gone
pub ended-gone : (r : Records) (t : Table) (peers : List ℕ) (i : ℕ) (e : Endpoint) → AreTied r t peers → slice_get r.endpoints i ≡ Some e → ended_in (ended_table t e).records ≡ filter (λ a. list_any (owes_gone a) (ended_table t e).owing) (with_rising e.address (ended_in t.records))
ended-gone r t peers i e tie there =
    let os = map (also_owing (gone_event e)) t.owing in
    let at : slice_get (filter is_live t.records) i ≡ Some (live_record e) = ap (λ (xs : List Record). slice_get xs i) tie.live ∙ slice_get-map live_record r.endpoints i ∙ ap (option_map live_record) there in
    ended-left os (map (ended e.address) t.records)
    ∙ ap (filter (λ a. list_any (owes_gone a) os)) (ended-rises e.address t.records i (live_record e) tie.rising at refl)
