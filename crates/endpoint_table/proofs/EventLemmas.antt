-- Events in their order: what the next ones keep of it, and what they say of an end.
use Rattle.std.proofs.Common.{◌≡◌, ◌<◌, ◌≤◌, ◌+◌, ◌∙◌, ℕ, Bool, true, false, not, ◌&&◌, ◌||◌, List, [], ◌∷◌, ◌++◌, cond, refl, sym, ap, subst, inl, inr, arith}
use Rattle.std.specs.Prelude.{◌==◌}
use Rattle.std.specs.List.{list_any}
use Rattle.std.proofs.lemmas.Bool.{cases_Bool, eq-eqb, ne_eqb, or_parts, both_ways}
use Rattle.endpoint_table.specs.declared.announced.Announced.{Announced}
use Rattle.endpoint_table.specs.Table.{tells_gone}
use Rattle.endpoint_table.specs.InTable.{InOrder, IsNext}

pub any-push : {X : Type 0} (p : X → Bool) (xs : List X) (y : X) → list_any p (xs ++ y ∷ []) ≡ (list_any p xs || (p y || false))
any-push p [] y = refl
any-push p (x ∷ xs) y = elim (p x) as (λ b. (b || list_any p (xs ++ y ∷ [])) ≡ ((b || list_any p xs) || (p y || false))) [ true ↦ refl | false ↦ any-push p xs y ]

-- ---- what an announcement says of an end

-- that an endpoint is there says nothing of an end
pub tells-there : (x : ℕ) (a : Announced) → a.create ≡ true → tells_gone x a ≡ false
tells-there x a there = ap (λ b. not b && (a.address == x)) there

pub tells-end : (x : ℕ) (a : Announced) → a.create ≡ false → tells_gone x a ≡ (a.address == x)
tells-end x a gone = ap (λ b. not b && (a.address == x)) gone

pub tells-other : (x : ℕ) (a : Announced) → (a.address ≡ x → ⊥) → tells_gone x a ≡ false
tells-other x a differs = elim (cases_Bool a.create) [
  | inl there ↦ tells-there x a there
  | inr gone ↦ tells-end x a gone ∙ ne_eqb a.address x differs
]

-- ---- the order

-- the first event, by what it says
pub first-there : (from : ℕ) (a : Announced) (es : List Announced) (next : ℕ) → a.create ≡ true → InOrder from (a ∷ es) next → (a.address ≡ from) × InOrder (from + 1) es next
first-there from a es next there o =
    (subst (λ b. IsNext b from a.address es) there o.0, subst (λ b. InOrder (cond b (from + 1) from) es next) there o.1)

pub first-gone : (from : ℕ) (a : Announced) (es : List Announced) (next : ℕ) → a.create ≡ false → InOrder from (a ∷ es) next → ((a.address < from) × (list_any (tells_gone a.address) es ≡ false)) × InOrder from es next
first-gone from a es next gone o =
    (subst (λ b. IsNext b from a.address es) gone o.0, subst (λ b. InOrder (cond b (from + 1) from) es next) gone o.1)

then-there : (from : ℕ) (a : Announced) (es : List Announced) (next : ℕ) → a.create ≡ true → a.address ≡ from → InOrder (from + 1) es next → InOrder from (a ∷ es) next
then-there from a es next there at o =
    (subst (λ b. IsNext b from a.address es) (sym there) at, subst (λ b. InOrder (cond b (from + 1) from) es next) (sym there) o)

then-gone : (from : ℕ) (a : Announced) (es : List Announced) (next : ℕ) → a.create ≡ false → a.address < from → list_any (tells_gone a.address) es ≡ false → InOrder from es next → InOrder from (a ∷ es) next
then-gone from a es next gone lt once o =
    (subst (λ b. IsNext b from a.address es) (sym gone) (lt, once), subst (λ b. InOrder (cond b (from + 1) from) es next) (sym gone) o)

pub order-rises : (from : ℕ) (es : List Announced) (next : ℕ) → InOrder from es next → from ≤ next
order-rises from [] next o = let same : from ≡ next = o in omega arith
order-rises from (a ∷ es) next o = elim (cases_Bool a.create) [
  | inl there ↦ let rest = order-rises (from + 1) es next (first-there from a es next there o).1 in omega arith
  | inr gone ↦ order-rises from es next (first-gone from a es next gone o).1
]

-- nothing says that an endpoint is gone that was not created yet
pub order-none-gone : (from : ℕ) (es : List Announced) (next x : ℕ) → InOrder from es next → next ≤ x → list_any (tells_gone x) es ≡ false
order-none-gone from [] next x o most = refl
order-none-gone from (a ∷ es) next x o most = elim (cases_Bool a.create) [
  | inl there ↦
      let rest = order-none-gone (from + 1) es next x (first-there from a es next there o).1 most in
      ap (λ b. b || list_any (tells_gone x) es) (tells-there x a there) ∙ rest
  | inr gone ↦
      let first = first-gone from a es next gone o in
      let rest = order-none-gone from es next x first.1 most in
      let rises = order-rises from es next first.1 in
      ap (λ b. b || list_any (tells_gone x) es) (tells-other x a (λ same. omega (arith, first.0.0))) ∙ rest
]

-- the next creation is announced
pub order-there : (from : ℕ) (es : List Announced) (next : ℕ) (e : Announced) → InOrder from es next → e.create ≡ true → e.address ≡ next → InOrder from (es ++ e ∷ []) (next + 1)
order-there from [] next e o there at =
    let same : from ≡ next = o in
    then-there from e [] (next + 1) there (at ∙ sym same) (ap (λ n. n + 1) same)
order-there from (a ∷ es) next e o there at = elim (cases_Bool a.create) [
  | inl first ↦
      let was = first-there from a es next first o in
      then-there from a (es ++ e ∷ []) (next + 1) first was.0 (order-there (from + 1) es next e was.1 there at)
  | inr gone ↦
      let was = first-gone from a es next gone o in
      let still : list_any (tells_gone a.address) (es ++ e ∷ []) ≡ false =
      any-push (tells_gone a.address) es e ∙ ap (λ b. b || (tells_gone a.address e || false)) was.0.1 ∙ ap (λ b. b || false) (tells-there a.address e there) in
      then-gone from a (es ++ e ∷ []) (next + 1) gone was.0.0 still (order-there from es next e was.1 there at)
]

-- an end is announced, where it was not before
pub order-gone : (from : ℕ) (es : List Announced) (next : ℕ) (e : Announced) → InOrder from es next → e.create ≡ false → e.address < next → list_any (tells_gone e.address) es ≡ false → InOrder from (es ++ e ∷ []) next
order-gone from [] next e o gone lt once =
    let same : from ≡ next = o in
    then-gone from e [] next gone (omega arith) refl o
order-gone from (a ∷ es) next e o gone lt once = elim (cases_Bool a.create) [
  | inl there ↦
      let was = first-there from a es next there o in
      let rest : list_any (tells_gone e.address) es ≡ false = (or_parts _ _ once).1 in
      then-there from a (es ++ e ∷ []) next there was.0 (order-gone (from + 1) es next e was.1 gone lt rest)
  | inr first ↦
      let was = first-gone from a es next first o in
      let parts = or_parts (tells_gone e.address a) (list_any (tells_gone e.address) es) once in
      let differs : e.address ≡ a.address → ⊥ = λ same. both_ways (tells_gone e.address a) parts.0 (tells-end e.address a first ∙ eq-eqb a.address e.address (sym same)) in
      let still : list_any (tells_gone a.address) (es ++ e ∷ []) ≡ false =
      any-push (tells_gone a.address) es e ∙ ap (λ b. b || (tells_gone a.address e || false)) was.0.1 ∙ ap (λ b. b || false) (tells-other a.address e differs) in
      then-gone from a (es ++ e ∷ []) next first was.0.0 still (order-gone from es next e was.1 gone lt parts.1)
]
