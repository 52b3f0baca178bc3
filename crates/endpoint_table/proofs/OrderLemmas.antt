-- Records and events in their order, after each change.
use Rattle.std.proofs.Common.{◌≡◌, ◌<◌, ◌≤◌, ◌+◌, ◌∙◌, ℕ, Bool, true, false, not, ◌&&◌, ◌||◌, List, [], ◌∷◌, ◌++◌, length, map, drop, cond, refl, sym, ap, subst, inl, inr, arith}
use Rattle.std.specs.Prelude.{◌==◌, filter, find, Some}
use Rattle.std.specs.List.{AllByRecursion, list_any}
use Rattle.std.proofs.lemmas.Bool.{cases_Bool, cases_eq, eq-eqb, ne_eqb, and_parts, not_from_true, not-true}
use Rattle.std.proofs.lemmas.List.{length_push}
use Rattle.mc_base.specs.declared.name.Local.{Local}
use Rattle.endpoint_table.specs.declared.record.Record.{Record}
use Rattle.endpoint_table.specs.declared.announced.Announced.{Announced}
use Rattle.endpoint_table.specs.declared.debts.Debt.{Debt}
use Rattle.endpoint_table.specs.Table.{tells_gone, is_in_use, is_live_at, ended}
use Rattle.endpoint_table.specs.InTable.{owing_in, owes, settled_events, settled_records, without_ended, most_owed, IsMarked, IsOrderly, IsTight}
use Rattle.endpoint_table.proofs.RecordLemmas.{all-push, all-weaken, all-map, all-filter, all-find, find-passes, ended-address, rising-push, rising-ended, rising-filter, most_owed-told, most_owed-push, most_owed-filter, most_owed-ended, weight-new}
use Rattle.endpoint_table.proofs.EventLemmas.{any-push, tells-there, tells-end, tells-other, first-there, first-gone, order-rises, order-none-gone, order-there, order-gone}
use Rattle.endpoint_table.proofs.DebtLemmas.{owed-is-told}

-- ---- what the events say of a record

marked-there : (es : List Announced) (e : Announced) (r : Record) → e.create ≡ true → IsMarked es r → IsMarked (es ++ e ∷ []) r
marked-there es e r there marked = any-push (tells_gone r.address) es e ∙ or-nothing (list_any (tells_gone r.address) es) (tells_gone r.address e) (tells-there r.address e there) ∙ marked
  where
    or-nothing : (a b : Bool) → b ≡ false → (a || (b || false)) ≡ a
    or-nothing true b is = refl
    or-nothing false b is = ap (λ x. x || false) is

marked-other : (es : List Announced) (e : Announced) (r : Record) → (e.address ≡ r.address → ⊥) → IsMarked es r → IsMarked (es ++ e ∷ []) r
marked-other es e r differs marked = any-push (tells_gone r.address) es e ∙ or-nothing (list_any (tells_gone r.address) es) (tells_gone r.address e) (tells-other r.address e differs) ∙ marked
  where
    or-nothing : (a b : Bool) → b ≡ false → (a || (b || false)) ≡ a
    or-nothing true b is = refl
    or-nothing false b is = ap (λ x. x || false) is

-- ---- a creation

pub orderly-created : (rs : List Record) (es : List Announced) (next : ℕ) (r : Record) (e : Announced) → IsOrderly rs es next → r.address ≡ next → r.live ≡ true → e.address ≡ next → e.create ≡ true → IsOrderly (rs ++ r ∷ []) (es ++ e ∷ []) (next + 1)
orderly-created rs es next r e o at live told there =
    let from = o.from in
    let rises = order-rises from es next o.ordered in
    let none : list_any (tells_gone r.address) es ≡ false = order-none-gone from es next r.address o.ordered (omega arith) in
    record {
      rising = rising-push rs r o.rising (all-weaken (λ (x : Record). x.address < next) (λ (x : Record). x.address < r.address) (λ x lt. omega arith) rs o.below);
      below = all-push (λ (x : Record). x.address < next + 1) rs r (all-weaken (λ (x : Record). x.address < next) (λ (x : Record). x.address < next + 1) (λ x lt. omega arith) rs o.below) (omega arith);
      from = from;
      ordered = order-there from es next e o.ordered there told;
      weighed = omega (arith, o.weighed, length_push es e, most_owed-push from rs r, weight-new from r (omega arith) live);
      marked = all-push (IsMarked (es ++ e ∷ [])) rs r (all-weaken (IsMarked es) (IsMarked (es ++ e ∷ [])) (λ x marked. marked-there es e x there marked) rs o.marked) (marked-there es e r there (none ∙ sym (not_from_true r.live live)));
    }

-- ---- an end

marked-ended : (es : List Announced) (e : Announced) (r : Record) → e.create ≡ false → IsMarked es r → IsMarked (es ++ e ∷ []) (ended e.address r)
marked-ended es e r gone marked = elim (cases_eq r.address e.address) [
  | inl same ↦
      let is : ended e.address r ≡ record r { live = false } = ap (λ b. cond b (record r { live = false }) r) (eq-eqb r.address e.address same) in
      let told : tells_gone r.address e ≡ true = tells-end r.address e gone ∙ eq-eqb e.address r.address (sym same) in
      subst (IsMarked (es ++ e ∷ [])) (sym is) (any-push (tells_gone r.address) es e ∙ or-some (list_any (tells_gone r.address) es) (tells_gone r.address e) told)
  | inr differs ↦
      let is : ended e.address r ≡ r = ap (λ b. cond b (record r { live = false }) r) (ne_eqb r.address e.address differs) in
      subst (IsMarked (es ++ e ∷ [])) (sym is) (marked-other es e r (λ same. differs (sym same)) marked)
]
  where
    or-some : (a b : Bool) → b ≡ true → (a || (b || false)) ≡ true
    or-some true b is = refl
    or-some false b is = ap (λ x. x || false) is

pub orderly-ended : (rs : List Record) (es : List Announced) (next : ℕ) (local : Local) (r : Record) (e : Announced) → IsOrderly rs es next → find (is_live_at local) rs ≡ Some r → e.address ≡ r.address → e.create ≡ false → IsOrderly (map (ended e.address) rs) (es ++ e ∷ []) next
orderly-ended rs es next local r e o found at gone =
    let from = o.from in
    let live : r.live ≡ true = (and_parts r.live (r.local.node == local.node && r.local.port == local.port) (find-passes (is_live_at local) rs r found)).0 in
    let below : r.address < next = all-find (λ (x : Record). x.address < next) (is_live_at local) rs r found o.below in
    let once : list_any (tells_gone e.address) es ≡ false = ap (λ a. list_any (tells_gone a) es) at ∙ all-find (IsMarked es) (is_live_at local) rs r found o.marked ∙ not_from_true r.live live in
    let more : most_owed from rs + 1 ≤ most_owed from (map (ended e.address) rs) = subst (λ a. most_owed from rs + 1 ≤ most_owed from (map (ended a) rs)) (sym at) (most_owed-ended from local rs r found) in
    record {
      rising = rising-ended e.address rs o.rising;
      below = all-map (λ (x : Record). x.address < next) (ended e.address) rs (all-weaken (λ (x : Record). x.address < next) (λ (x : Record). (ended e.address x).address < next) (λ x lt. omega (arith, ended-address e.address x)) rs o.below);
      from = from;
      ordered = order-gone from es next e o.ordered gone (omega arith) once;
      weighed = omega (arith, o.weighed, length_push es e, more);
      marked = all-map (IsMarked (es ++ e ∷ [])) (ended e.address) rs (all-weaken (IsMarked es) (λ x. IsMarked (es ++ e ∷ []) (ended e.address x)) (λ x marked. marked-ended es e x gone marked) rs o.marked);
    }

-- ---- the oldest event goes

orderly-told : (rs : List Record) (e : Announced) (es : List Announced) (next : ℕ) → e.create ≡ true → IsOrderly rs (e ∷ es) next → IsOrderly rs es next
orderly-told rs e es next there o = record {
  rising = o.rising;
  below = o.below;
  from = o.from + 1;
  ordered = (first-there o.from e es next there o.ordered).1;
  weighed = omega (arith, o.weighed, most_owed-told o.from rs o.rising);
  marked = all-weaken (IsMarked (e ∷ es)) (IsMarked es) (λ x marked. sym (ap (λ b. b || list_any (tells_gone x.address) es) (tells-there x.address e there)) ∙ marked) rs o.marked;
}

-- a record of another address says the same without the event
marked-rest : (e : Announced) (es : List Announced) (r : Record) → (e.address ≡ r.address → ⊥) → IsMarked (e ∷ es) r → IsMarked es r
marked-rest e es r differs marked = sym (ap (λ b. b || list_any (tells_gone r.address) es) (tells-other r.address e differs)) ∙ marked

all-kept : (e : Announced) (es : List Announced) (rs : List Record) → AllByRecursion (IsMarked (e ∷ es)) rs → AllByRecursion (IsMarked es) (filter (λ r. not (r.address == e.address)) rs)
all-kept e es [] all = tt
all-kept e es (r ∷ rs) all =
    let kept = filter (λ (x : Record). not (x.address == e.address)) rs in
    elim (cases_eq r.address e.address) [
      | inl same ↦ subst (λ b. AllByRecursion (IsMarked es) (cond (not b) (r ∷ kept) kept)) (sym (eq-eqb r.address e.address same)) (all-kept e es rs all.1)
      | inr differs ↦ subst (λ b. AllByRecursion (IsMarked es) (cond (not b) (r ∷ kept) kept)) (sym (ne_eqb r.address e.address differs)) (marked-rest e es r (λ same. differs (sym same)) all.0, all-kept e es rs all.1)
    ]

orderly-freed : (rs : List Record) (e : Announced) (es : List Announced) (next : ℕ) → e.create ≡ false → IsOrderly rs (e ∷ es) next → IsOrderly (filter (λ r. not (r.address == e.address)) rs) es next
orderly-freed rs e es next gone o =
    let first = first-gone o.from e es next gone o.ordered in
    record {
      rising = rising-filter (λ r. not (r.address == e.address)) rs o.rising;
      below = all-filter (λ (x : Record). x.address < next) (λ r. not (r.address == e.address)) rs o.below;
      from = o.from;
      ordered = first.1;
      weighed = omega (arith, o.weighed, most_owed-filter o.from e.address rs o.rising first.0.0);
      marked = all-kept e es rs o.marked;
    }

orderly-dropped : (rs : List Record) (es : List Announced) (next : ℕ) → IsOrderly rs es next → IsOrderly (without_ended rs es) (drop 1 es) next
orderly-dropped rs [] next o = o
orderly-dropped rs (e ∷ es) next o =
    let kept = filter (λ (r : Record). not (r.address == e.address)) rs in
    elim (cases_Bool e.create) [
      | inl there ↦ subst (λ b. IsOrderly (cond b rs kept) es next) (sym there) (orderly-told rs e es next there o)
      | inr gone ↦ subst (λ b. IsOrderly (cond b rs kept) es next) (sym gone) (orderly-freed rs e es next gone o)
    ]

pub orderly-settled : (rs : List Record) (es : List Announced) (ds : List Debt) (next : ℕ) → IsOrderly rs es next → IsOrderly (settled_records rs es ds) (settled_events es ds) next
orderly-settled rs es ds next o =
    elim (list_any (owes (length es)) ds) as (λ b. IsOrderly (cond b rs (without_ended rs es)) (cond b es (drop 1 es)) next)
    [ true ↦ o | false ↦ orderly-dropped rs es next o ]

-- ---- the records in use

filter-by : {X : Type 0} (p q : X → Bool) (xs : List X) → AllByRecursion (λ x. p x ≡ q x) xs → filter p xs ≡ filter q xs
filter-by p q [] all = refl
filter-by {X} p q (x ∷ xs) all =
    ap (λ b. cond b (x ∷ filter p xs) (filter p xs)) all.0
    ∙ ap (λ (ys : List X). cond (q x) (x ∷ ys) ys) (filter-by p q xs all.1)

filter-every : {X : Type 0} (p : X → Bool) (xs : List X) → AllByRecursion (λ x. p x ≡ true) xs → filter p xs ≡ xs
filter-every p [] all = refl
filter-every {X} p (x ∷ xs) all = ap (λ b. cond b (x ∷ filter p xs) (filter p xs)) all.0 ∙ ap (λ (ys : List X). x ∷ ys) (filter-every p xs all.1)

or-not : (a b : Bool) → b ≡ not a → (a || b) ≡ true
or-not true b is = refl
or-not false b is = is

-- whether a record is in use, as the events tell it
abbrev in-use : List Announced → Record → Bool
in-use es r = r.live || list_any (tells_gone r.address) es

in-use-all : (es : List Announced) (rs : List Record) → AllByRecursion (IsMarked es) rs → filter (in-use es) rs ≡ rs
in-use-all es rs marked = filter-every (in-use es) rs (all-weaken (IsMarked es) (λ r. in-use es r ≡ true) (λ r is. or-not r.live (list_any (tells_gone r.address) es) is) rs marked)

in-use-freed : (from next : ℕ) (e : Announced) (es : List Announced) (r : Record) → e.create ≡ false → list_any (tells_gone e.address) es ≡ false → IsMarked (e ∷ es) r → in-use es r ≡ not (r.address == e.address)
in-use-freed from next e es r gone once marked = elim (cases_eq r.address e.address) [
  | inl same ↦
      let told : tells_gone r.address e ≡ true = tells-end r.address e gone ∙ eq-eqb e.address r.address (sym same) in
      let over : not r.live ≡ true = sym marked ∙ ap (λ b. b || list_any (tells_gone r.address) es) told in
      let dead : r.live ≡ false = not-true r.live over in
      ap (λ b. b || list_any (tells_gone r.address) es) dead ∙ ap (λ a. list_any (tells_gone a) es) same ∙ once ∙ sym (ap not (eq-eqb r.address e.address same))
  | inr differs ↦
      or-not r.live (list_any (tells_gone r.address) es) (marked-rest e es r (λ same. differs (sym same)) marked) ∙ sym (ap not (ne_eqb r.address e.address differs))
]

in-use-dropped : (rs : List Record) (es : List Announced) (next : ℕ) → IsOrderly rs es next → filter (in-use (drop 1 es)) rs ≡ without_ended rs es
in-use-dropped rs [] next o = in-use-all [] rs o.marked
in-use-dropped rs (e ∷ es) next o =
    let kept = filter (λ (r : Record). not (r.address == e.address)) rs in
    elim (cases_Bool e.create) [
      | inl there ↦ in-use-all es rs (orderly-told rs e es next there o).marked ∙ sym (ap (λ b. cond b rs kept) there)
      | inr gone ↦
          let once = (first-gone o.from e es next gone o.ordered).0.1 in
          filter-by (in-use es) (λ r. not (r.address == e.address)) rs (all-weaken (IsMarked (e ∷ es)) (λ r. in-use es r ≡ not (r.address == e.address)) (λ r marked. in-use-freed o.from next e es r gone once marked) rs o.marked)
          ∙ sym (ap (λ b. cond b rs kept) gone)
    ]

in-use-settled : (rs : List Record) (es : List Announced) (ds : List Debt) (next : ℕ) → IsOrderly rs es next → filter (in-use (settled_events es ds)) rs ≡ settled_records rs es ds
in-use-settled rs es ds next o =
    elim (list_any (owes (length es)) ds) as (λ b. filter (in-use (cond b es (drop 1 es))) rs ≡ cond b rs (without_ended rs es))
    [ true ↦ in-use-all es rs o.marked | false ↦ in-use-dropped rs es next o ]

is-in-use : (es : List Announced) (ds : List Debt) (rs : List Record) → IsTight es ds → AllByRecursion (λ r. is_in_use (owing_in es ds) r ≡ in-use es r) rs
is-in-use es ds [] tight = tt
is-in-use es ds (r ∷ rs) tight = (ap (λ b. r.live || b) (owed-is-told r.address es ds tight), is-in-use es ds rs tight)

-- what is left are the records in use
pub freed-settled : (rs : List Record) (es : List Announced) (ds : List Debt) (next : ℕ) → IsOrderly rs es next → IsTight (settled_events es ds) ds → filter (is_in_use (owing_in (settled_events es ds) ds)) rs ≡ settled_records rs es ds
freed-settled rs es ds next o tight =
    filter-by (is_in_use (owing_in (settled_events es ds) ds)) (in-use (settled_events es ds)) rs (is-in-use (settled_events es ds) ds rs tight)
    ∙ in-use-settled rs es ds next o
