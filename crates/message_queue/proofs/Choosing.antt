-- The place of the oldest message, and of the oldest of the best priority.
use Rattle.std.proofs.Common.{◌≡◌, ◌≢◌, ℕ, zero, suc, ◌<◌, ◌≤◌, Bool, true, false, cond, List, [], ◌∷◌, ◌++◌, map, Option, Some, None, refl, sym, ap, subst, ◌∙◌, arith, inl, inr}
use Rattle.std.specs.Prelude.{filter, find, not, ◌==◌, IsNone, ◌↔◌}
use Rattle.std.specs.List.{AllByRecursion}
use Rattle.std.proofs.ByRecursion.{all_kept_by}
use Rattle.std.proofs.lemmas.Bool.{cases_lt, true≢false, eqb-true}
use Rattle.std.proofs.lemmas.Bool.Decides.{eqb_tells}
use Rattle.board_model.specs.Lists.{without_first}
use Rattle.board_model.specs.Choice.{least, best, without_best}
use Rattle.board_model.proofs.MessageLists.{best_is, without_best_is}
use Rattle.message_queue.specs.declared.cells.Cells.{Cells}
use Rattle.message_queue.specs.Queue.{Waiting}
use Rattle.message_queue.specs.Linked.{at, IsLinked, IsChain, Lacks, Differ, is_place, without_place}
use Rattle.message_queue.specs.Cells.{Columns, columns_of, held_at, has_priority, AreLinked, order_of, IsFirst}
use Rattle.message_queue.proofs.Chains.{All-left, Differ-left, Differ-take_out}
use Rattle.message_queue.proofs.CellLists.{chain-empty}

true_false : true ≡ false → ⊥
true_false is = true≢false is

not_empty : (xs : List ℕ) (o : ℕ) (ys : List ℕ) → [] ≡ xs ++ o ∷ ys → ⊥
not_empty [] o ys is = absurd cc
not_empty (x ∷ xs) o ys is = absurd cc

eqb-same : (n : ℕ) → (n == n) ≡ true
eqb-same n = elim (eqb_tells n n) [ inl yes_same ↦ yes_same.0 | inr other ↦ absurd (other.1 refl) ]

-- ---- without one place

pub without_place-split : (xs : List ℕ) (o : ℕ) (ys : List ℕ) → Lacks xs o → without_place (xs ++ o ∷ ys) o ≡ xs ++ ys
without_place-split [] o ys lacks = ap (λ b. cond b ys (o ∷ without_place ys o)) (eqb-same o)
without_place-split (x ∷ xs) o ys lacks = elim (eqb_tells x o) [
  | inl same ↦ absurd (lacks.0 same.1)
  | inr other ↦ ap (λ b. cond b (xs ++ o ∷ ys) (x ∷ without_place (xs ++ o ∷ ys) o)) other.0 ∙ ap (λ (r : List ℕ). x ∷ r) (without_place-split xs o ys lacks.1)
]

Lacks-before : (xs : List ℕ) (o : ℕ) (ys : List ℕ) → Differ (xs ++ o ∷ ys) → Lacks xs o
Lacks-before xs o ys d = All-left (λ x. x ≢ o) xs ys (Differ-take_out xs o ys d).0

pub without_place-is : (os xs : List ℕ) (o : ℕ) (ys : List ℕ) → os ≡ xs ++ o ∷ ys → Differ os → without_place os o ≡ xs ++ ys
without_place-is os xs o ys is d =
    ap (λ (r : List ℕ). without_place r o) is ∙ without_place-split xs o ys (Lacks-before xs o ys (subst Differ is d))

-- ---- the first that passes a test

filter-none : (t : ℕ → Bool) (x : ℕ) (xs : List ℕ) → filter t (x ∷ xs) ≡ [] → (t x ≡ false) × (filter t xs ≡ [])
filter-none t x xs none = go (t x) refl none
  where
    go : (b : Bool) → t x ≡ b → cond b (x ∷ filter t xs) (filter t xs) ≡ [] → (t x ≡ false) × (filter t xs ≡ [])
    go true is none = absurd cc
    go false is none = (is, none)

-- the list before and after it
pub record Found (t : ℕ → Bool) (os : List ℕ) (o : ℕ) : Type 0 where
  pub before : List ℕ
  pub after : List ℕ
  pub split : os ≡ before ++ o ∷ after
  pub passes : t o ≡ true
  pub first : filter t before ≡ []

filter-first : (t : ℕ → Bool) (os : List ℕ) (o : ℕ) (r : List ℕ) → filter t os ≡ o ∷ r → Found t os o
filter-first t [] o r is = absurd cc
filter-first t (x ∷ xs) o r is = go (t x) refl is (filter-first t xs o r)
  where
    go : (b : Bool) → t x ≡ b → cond b (x ∷ filter t xs) (filter t xs) ≡ o ∷ r → (filter t xs ≡ o ∷ r → Found t xs o) → Found t (x ∷ xs) o
    go true passes is later =
        let same : x ≡ o = cc in
        record { before = []; after = xs; split = ap (λ (y : ℕ). y ∷ xs) same; passes = subst (λ (y : ℕ). t y ≡ true) same passes; first = refl }
    go false fails is later =
        let rest = later is in
        record { before = x ∷ rest.before; after = rest.after; split = ap (λ (ys : List ℕ). x ∷ ys) rest.split; passes = rest.passes; first = ap (λ b. cond b (x ∷ filter t rest.before) (filter t rest.before)) fails ∙ rest.first }

find-first : (held : List Waiting) (p : ℕ) (xs : List ℕ) (o : ℕ) (ys : List ℕ) → filter (has_priority held p) xs ≡ [] → has_priority held p o ≡ true → find (λ w. w.priority == p) (map (held_at held) (xs ++ o ∷ ys)) ≡ Some (held_at held o)
find-first held p [] o ys none is = ap (λ b. cond b (Some (held_at held o)) (find (λ w. w.priority == p) (map (held_at held) ys))) is
find-first held p (x ∷ xs) o ys none is =
    let step = filter-none (has_priority held p) x xs none in
    ap (λ b. cond b (Some (held_at held x)) (find (λ w. w.priority == p) (map (held_at held) (xs ++ o ∷ ys)))) step.0 ∙ find-first held p xs o ys step.1 is

without-first : (held : List Waiting) (p : ℕ) (xs : List ℕ) (o : ℕ) (ys : List ℕ) → filter (has_priority held p) xs ≡ [] → has_priority held p o ≡ true → without_first (λ w. w.priority == p) (map (held_at held) (xs ++ o ∷ ys)) ≡ map (held_at held) (xs ++ ys)
without-first held p [] o ys none is = ap (λ b. cond b (map (held_at held) ys) (held_at held o ∷ without_first (λ w. w.priority == p) (map (held_at held) ys))) is
without-first held p (x ∷ xs) o ys none is =
    let step = filter-none (has_priority held p) x xs none in
    ap (λ b. cond b (map (held_at held) (xs ++ o ∷ ys)) (held_at held x ∷ without_first (λ w. w.priority == p) (map (held_at held) (xs ++ o ∷ ys)))) step.0 ∙ ap (λ (r : List Waiting). held_at held x ∷ r) (without-first held p xs o ys step.1 is)

-- ---- the least priority

least-above : (q : ℕ) (w : Waiting) (ws : List Waiting) → AllByRecursion (λ (w : Waiting). q ≤ w.priority) (w ∷ ws) → q ≤ least (λ (w : Waiting). w.priority) (w ∷ ws)
least-above q w [] all = all.0
least-above q w (x ∷ xs) all = let rest = least-above q x xs all.1 in let here = all.0 in omega arith

least-found : (q : ℕ) (ws : List Waiting) (w : Waiting) → find (λ w. w.priority == q) ws ≡ Some w → least (λ (w : Waiting). w.priority) ws ≤ q
least-found q [] w is = absurd cc
least-found q (x ∷ []) w is = elim (eqb_tells x.priority q) [
  | inl same ↦ omega (arith, same.1)
  | inr other ↦ let none : find (λ w. w.priority == q) (x ∷ []) ≡ None = ap (λ b. cond b (Some x) None) other.0 in absurd cc
]
least-found q (x ∷ y ∷ ys) w is = elim (eqb_tells x.priority q) [
  | inl same ↦ omega (arith, same.1)
  | inr other ↦
      let later : find (λ w. w.priority == q) (x ∷ y ∷ ys) ≡ find (λ w. w.priority == q) (y ∷ ys) = ap (λ b. cond b (Some x) (find (λ w. w.priority == q) (y ∷ ys))) other.0 in
      let rest = least-found q (y ∷ ys) w (sym later ∙ is) in
      omega arith
]

all_above : (held : List Waiting) (q : ℕ) (os : List ℕ) → ((k : ℕ) → k < q → filter (has_priority held k) os ≡ []) → AllByRecursion (λ (w : Waiting). q ≤ w.priority) (map (held_at held) os)
all_above held q [] none = tt
all_above held q (o ∷ os) none = (here, all_above held q os (λ k lt. (filter-none (has_priority held k) o os (none k lt)).1))
  where
    here : q ≤ (held_at held o).priority
    here = elim (cases_lt (held_at held o).priority q) [
      | inl lt ↦ let fails = (filter-none (has_priority held (held_at held o).priority) o os (none (held_at held o).priority lt)).0 in absurd (true_false (sym (eqb-same (held_at held o).priority) ∙ fails))
      | inr le ↦ le
    ]

-- ---- the first of four

-- the first list that is not empty
pub record FirstPlace (first : List ℕ) (place : ℕ) : Type 0 where
  pub of : ℕ
  pub is : at first of ≡ place
  pub some : place ≢ 0
  pub before : (k : ℕ) → k < of → at first k ≡ 0

find-place : (first : List ℕ) (place : ℕ) → find is_place first ≡ Some place → FirstPlace first place
find-place [] place is = absurd cc
find-place (x ∷ xs) place is = elim (eqb_tells x 0) [
  | inl none ↦
      let later : find is_place (x ∷ xs) ≡ find is_place xs = ap (λ b. cond (not b) (Some x) (find is_place xs)) none.0 in
      let rest = find-place xs place (sym later ∙ is) in
      record { of = suc rest.of; is = rest.is; some = rest.some; before = below none.1 rest }
  | inr some ↦
      let here : find is_place (x ∷ xs) ≡ Some x = ap (λ b. cond (not b) (Some x) (find is_place xs)) some.0 in
      let same : x ≡ place = cc in
      record { of = 0; is = same; some = λ zero_place. some.1 (same ∙ zero_place); before = λ k lt. absurd (omega arith) }
]
  where
    below : x ≡ 0 → (rest : FirstPlace xs place) → (k : ℕ) → k < suc rest.of → at (x ∷ xs) k ≡ 0
    below none rest zero lt = none
    below none rest (suc k) lt = rest.before k (omega arith)

find-no_place : (first : List ℕ) → find is_place first ≡ None → (k : ℕ) → at first k ≡ 0
find-no_place [] none k = refl
find-no_place (x ∷ xs) none k = elim (eqb_tells x 0) [
  | inl is ↦
      let later : find is_place (x ∷ xs) ≡ find is_place xs = ap (λ b. cond (not b) (Some x) (find is_place xs)) is.0 in
      all_none is.1 (find-no_place xs (sym later ∙ none)) k
  | inr some ↦ let here : find is_place (x ∷ xs) ≡ Some x = ap (λ b. cond (not b) (Some x) (find is_place xs)) some.0 in absurd cc
]
  where
    all_none : x ≡ 0 → ((k : ℕ) → at xs k ≡ 0) → (k : ℕ) → at (x ∷ xs) k ≡ 0
    all_none is rest zero = is
    all_none is rest (suc k) = rest k

no_place-find : (first : List ℕ) → ((k : ℕ) → at first k ≡ 0) → find is_place first ≡ None
no_place-find [] none = refl
no_place-find (x ∷ xs) none =
    ap (λ (y : ℕ). cond (is_place y) (Some x) (find is_place xs)) (none 0) ∙ no_place-find xs (λ k. none (suc k))

-- ---- what it says of the queue

no_priority : (held : List Waiting) (os : List ℕ) → ((k : ℕ) → filter (has_priority held k) os ≡ []) → os ≡ []
no_priority held [] none = refl
no_priority held (o ∷ os) none =
    let fails = (filter-none (has_priority held (held_at held o).priority) o os (none (held_at held o).priority)).0 in
    absurd (true_false (sym (eqb-same (held_at held o).priority) ∙ fails))

module _ (c : Columns) (first last os fs : List ℕ) (l : AreLinked c first last os fs) where
  order_lacks : (k : ℕ) → Lacks (filter (has_priority c.held k) os) 0
  order_lacks k = all_kept_by (has_priority c.held k) (λ x. x ≢ 0) os (All-left (λ x. x ≢ 0) os fs l.differ.0)

  none-of : (k : ℕ) → at first k ≡ 0 → filter (has_priority c.held k) os ≡ []
  none-of k none = chain-empty c.same (at first k) (filter (has_priority c.held k) os) none (order_lacks k) (l.chains k)

  pub best-none : find is_place first ≡ None → os ≡ []
  best-none none = no_priority c.held os (λ k. none-of k (find-no_place first none k))

  pub none-best : os ≡ [] → find is_place first ≡ None
  none-best none = no_place-find first (λ k. subst (λ (r : List ℕ). IsChain c.same (at first k) (filter (has_priority c.held k) r)) none (l.chains k))

  module _ (place : ℕ) (found : find is_place first ≡ Some place) where
    chain-some : (h : ℕ) (r : List ℕ) → h ≡ place → place ≢ 0 → IsChain c.same h r → (s : List ℕ) × (r ≡ place ∷ s)
    chain-some h [] is some l = absurd (some (sym is ∙ l))
    chain-some h (o ∷ s) is some l = (s, ap (λ (k : ℕ). k ∷ s) (sym l.0 ∙ is))

    pub best-found : (p : FirstPlace first place) → Found (has_priority c.held p.of) os place
    best-found p =
        let some = chain-some (at first p.of) (filter (has_priority c.held p.of) os) p.is p.some (l.chains p.of) in
        filter-first (has_priority c.held p.of) os place some.0 some.1

    pub best-place : FirstPlace first place
    best-place = find-place first place found

    least-is : least (λ (w : Waiting). w.priority) (map (held_at c.held) os) ≡ best-place.of
    least-is =
        let p = best-place in
        let f = best-found p in
        let at_found : find (λ w. w.priority == p.of) (map (held_at c.held) os) ≡ Some (held_at c.held place) = ap (λ (r : List ℕ). find (λ w. w.priority == p.of) (map (held_at c.held) r)) f.split ∙ find-first c.held p.of f.before place f.after f.first f.passes in
        let low = least-found p.of (map (held_at c.held) os) (held_at c.held place) at_found in
        let high : p.of ≤ least (λ (w : Waiting). w.priority) (map (held_at c.held) os) = above os f.split (all_above c.held p.of os (λ k lt. none-of k (p.before k lt))) in
        omega arith
      where
        above : (r : List ℕ) → r ≡ (best-found best-place).before ++ place ∷ (best-found best-place).after → AllByRecursion (λ (w : Waiting). best-place.of ≤ w.priority) (map (held_at c.held) r) → best-place.of ≤ least (λ (w : Waiting). w.priority) (map (held_at c.held) r)
        above [] is all = absurd (not_empty (best-found best-place).before place (best-found best-place).after is)
        above (o ∷ r) is all = least-above best-place.of (held_at c.held o) (map (held_at c.held) r) all

    pub best-is : best (λ (w : Waiting). w.priority) (map (held_at c.held) os) ≡ Some (held_at c.held place)
    best-is =
        let p = best-place in
        let f = best-found p in
        best_is (λ (w : Waiting). w.priority) (map (held_at c.held) os)
        ∙ ap (λ (n : ℕ). find (λ (w : Waiting). w.priority == n) (map (held_at c.held) os)) least-is
        ∙ ap (λ (r : List ℕ). find (λ (w : Waiting). w.priority == p.of) (map (held_at c.held) r)) f.split
        ∙ find-first c.held p.of f.before place f.after f.first f.passes

    pub best-rest : map (held_at c.held) (without_place os place) ≡ without_best (λ (w : Waiting). w.priority) (map (held_at c.held) os)
    best-rest =
        let p = best-place in
        let f = best-found p in
        let removed = without_best_is (λ (w : Waiting). w.priority) (map (held_at c.held) os)
        ∙ ap (λ (n : ℕ). without_first (λ (w : Waiting). w.priority == n) (map (held_at c.held) os)) least-is
        ∙ ap (λ (r : List ℕ). without_first (λ (w : Waiting). w.priority == p.of) (map (held_at c.held) r)) f.split
        ∙ without-first c.held p.of f.before place f.after f.first f.passes in
        ap (map (held_at c.held)) (without_place-is os f.before place f.after f.split (Differ-left os fs l.differ.1)) ∙ sym removed

-- ---- what `oldest` and `best` answer

module _ (c : Columns) (first last os fs : List ℕ) (l : AreLinked c first last os fs) where
  pub best-none_both : (r : Option ℕ) → r ≡ find is_place first → IsNone r ↔ (map (held_at c.held) os ≡ [])
  best-none_both None is = (λ _. ap (map (held_at c.held)) (best-none c first last os fs l (sym is)), λ _. refl)
  best-none_both (Some o) is = (λ none. absurd cc, λ empty. absurd (some_none (none-best c first last os fs l (map_nil os empty)) is))
    where
      some_none : find is_place first ≡ None → Some o ≡ find is_place first → ⊥
      some_none none some = absurd cc

      map_nil : (os : List ℕ) → map (held_at c.held) os ≡ [] → os ≡ []
      map_nil [] is = refl
      map_nil (x ∷ xs) is = absurd cc

  pub best-first : (q : Cells) (o : ℕ) → order_of q ≡ os → (columns_of q.cells.items).held ≡ c.held → find is_place first ≡ Some o → IsFirst q o
  best-first q o order held found =
      let p = best-place c first last os fs l o found in
      let f = best-found c first last os fs l o found p in
      let own : (held_at c.held o).priority ≡ p.of = eqb-true (held_at c.held o).priority p.of f.passes in
      record {
        before = f.before;
        after = f.after;
        split = order ∙ f.split;
        first = ap (λ (h : List Waiting). filter (has_priority h (held_at h o).priority) f.before) held ∙ ap (λ (n : ℕ). filter (has_priority c.held n) f.before) own ∙ f.first;
      }

-- the first of a walk that is not empty
pub front-first : (q : Cells) (o : ℕ) (r : List ℕ) → order_of q ≡ o ∷ r → IsFirst q o
front-first q o r is = record { before = []; after = r; split = is; first = refl }

-- where something waits, the order begins with what cell 0 names; else that is cell 0
pub order-front : (next prev : List ℕ) (os : List ℕ) → IsLinked next prev 0 os 0 → Lacks os 0 → at next 0 ≢ 0 → (r : List ℕ) × (os ≡ at next 0 ∷ r)
order-front next prev [] l lacks some = absurd (some l.0)
order-front next prev (o ∷ os) l lacks some = (os, ap (λ (h : ℕ). h ∷ os) (sym l.0))

pub order-empty : (next prev : List ℕ) (os : List ℕ) → IsLinked next prev 0 os 0 → Lacks os 0 → at next 0 ≡ 0 → os ≡ []
order-empty next prev [] l lacks none = refl
order-empty next prev (o ∷ os) l lacks none = absurd (lacks.0 (sym l.0 ∙ none))

pub without_place-front : (o : ℕ) (r : List ℕ) → without_place (o ∷ r) o ≡ r
without_place-front o r = ap (λ b. cond b r (o ∷ without_place r o)) (eqb-same o)
