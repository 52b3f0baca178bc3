-- The lists of cells stay linked where a message is queued and where one is taken.
use Rattle.std.proofs.Common.{◌≡◌, ◌≢◌, ℕ, suc, ◌<◌, Bool, true, false, cond, List, [], ◌∷◌, ◌++◌, map, length, set, refl, sym, ap, subst, ◌∙◌, arith, append-nil, append_assoc, inl, inr, length-set}
use Rattle.std.specs.Prelude.{filter, ◌==◌}
use Rattle.std.specs.List.{AllByRecursion}
use Rattle.std.proofs.ByRecursion.{All-append, All-weaker, all_kept_by, kept_by_passes}
use Rattle.std.proofs.lemmas.Bool.{eqb-true}
use Rattle.std.proofs.lemmas.Bool.Decides.{eqb_tells}
use Rattle.std.proofs.lemmas.List.{get_or-set_same, get_or-set_other, map-append}
use Rattle.std.proofs.lemmas.List.Elements.{filter-append}
use Rattle.message_queue.specs.Queue.{Waiting}
use Rattle.message_queue.specs.Linked.{at, walk, IsLinked, IsChain, EndsAt, Lacks, Differ}
use Rattle.message_queue.specs.Cells.{Columns, held_at, has_priority, with_link, with_next, with_same, with_held, AreLinked}
use Rattle.message_queue.proofs.Chains.{All-left, All-right, All-moved, All-last, Lacks-sym, Differ-left, Differ-right, Differ-across, Differ-moved, Differ-take_out, walk-set, prev-all, next-all, linked-appended, linked-taken, linked-split, linked-set_next, chain-set, chain-longer, ends-longer}

-- ---- which of them have a priority

filter-same : (p q : ℕ → Bool) (os : List ℕ) → AllByRecursion (λ o. p o ≡ q o) os → filter p os ≡ filter q os
filter-same p q [] all = refl
filter-same p q (o ∷ os) all =
    ap (λ b. cond b (o ∷ filter p os) (filter p os)) all.0 ∙ ap (λ (r : List ℕ). cond (q o) (o ∷ r) r) (filter-same p q os all.1)

map-same : {X : Type 0} (f g : ℕ → X) (os : List ℕ) → AllByRecursion (λ o. f o ≡ g o) os → map f os ≡ map g os
map-same f g [] all = refl
map-same {X} f g (o ∷ os) all = ap (λ (x : X). x ∷ map f os) all.0 ∙ ap (λ (r : List X). g o ∷ r) (map-same f g os all.1)

held-others : (held : List Waiting) (f : ℕ) (w : Waiting) (os : List ℕ) → Lacks os f → AllByRecursion (λ o. held_at (set held f w) o ≡ held_at held o) os
held-others held f w os lacks = All-weaker (λ o. o ≢ f) (λ o. held_at (set held f w) o ≡ held_at held o) (λ o differs. get_or-set_other held f o w _ differs) os lacks

filter-appended : (held : List Waiting) (f : ℕ) (w : Waiting) (p : ℕ) (os : List ℕ) → Lacks os f → f < length held → filter (has_priority (set held f w) p) (os ++ f ∷ []) ≡ filter (has_priority held p) os ++ cond (w.priority == p) (f ∷ []) []
filter-appended held f w p os lacks lt =
    let old = filter-same (has_priority (set held f w) p) (has_priority held p) os (All-weaker (λ o. held_at (set held f w) o ≡ held_at held o) (λ o. has_priority (set held f w) p o ≡ has_priority held p o) (λ o is. ap (λ (x : Waiting). x.priority == p) is) os (held-others held f w os lacks)) in
    filter-append (has_priority (set held f w) p) os (f ∷ [])
    ∙ ap (λ (r : List ℕ). r ++ filter (has_priority (set held f w) p) (f ∷ [])) old
    ∙ ap (λ (x : Waiting). filter (has_priority held p) os ++ cond (x.priority == p) (f ∷ []) []) (get_or-set_same held f w _ lt)

filter-other : (held : List Waiting) (f : ℕ) (w : Waiting) (p : ℕ) (os : List ℕ) → Lacks os f → f < length held → (w.priority == p) ≡ false → filter (has_priority (set held f w) p) (os ++ f ∷ []) ≡ filter (has_priority held p) os
filter-other held f w p os lacks lt other =
    filter-appended held f w p os lacks lt ∙ ap (λ b. filter (has_priority held p) os ++ cond b (f ∷ []) []) other ∙ append-nil (filter (has_priority held p) os)

filter-own : (held : List Waiting) (f : ℕ) (w : Waiting) (p : ℕ) (os : List ℕ) → Lacks os f → f < length held → (w.priority == p) ≡ true → filter (has_priority (set held f w) p) (os ++ f ∷ []) ≡ filter (has_priority held p) os ++ f ∷ []
filter-own held f w p os lacks lt own =
    filter-appended held f w p os lacks lt ∙ ap (λ b. filter (has_priority held p) os ++ cond b (f ∷ []) []) own

-- one without a priority is not among those that have it
filter-lacks : (held : List Waiting) (p i : ℕ) (os : List ℕ) → (held_at held i).priority ≢ p → Lacks (filter (has_priority held p) os) i
filter-lacks held p i os differs =
    All-weaker (λ o. has_priority held p o ≡ true) (λ o. o ≢ i) (λ o is same. differs (ap (λ (k : ℕ). (held_at held k).priority) (sym same) ∙ eqb-true (held_at held o).priority p is)) (filter (has_priority held p) os) (kept_by_passes (has_priority held p) os)

filters-apart : (held : List Waiting) (p q : ℕ) (os : List ℕ) → q ≢ p → AllByRecursion (λ i. Lacks (filter (has_priority held p) os) i) (filter (has_priority held q) os)
filters-apart held p q os differs =
    All-weaker (λ i. has_priority held q i ≡ true) (λ i. Lacks (filter (has_priority held p) os) i) (λ i is. filter-lacks held p i os (λ same. differs (sym (eqb-true (held_at held i).priority q is) ∙ same))) (filter (has_priority held q) os) (kept_by_passes (has_priority held q) os)

filter-differ : (p : ℕ → Bool) (os : List ℕ) → Differ os → Differ (filter p os)
filter-differ p [] d = tt
filter-differ p (o ∷ os) d = go (p o) (filter-differ p os d.1)
  where
    go : (b : Bool) → Differ (filter p os) → Differ (cond b (o ∷ filter p os) (filter p os))
    go true rest = (all_kept_by p (λ x. x ≢ o) os d.0, rest)
    go false rest = rest

pub chain-empty : (same : List ℕ) (h : ℕ) (os : List ℕ) → h ≡ 0 → Lacks os 0 → IsChain same h os → os ≡ []
chain-empty same h [] none lacks l = refl
chain-empty same h (o ∷ os) none lacks l = absurd (lacks.0 (sym l.0 ∙ none))

ends-appended : (os : List ℕ) (f : ℕ) → EndsAt f (os ++ f ∷ [])
ends-appended [] f = refl
ends-appended (o ∷ os) f = ends-longer o os f

-- ---- a message is queued

-- every column has the same length
abbrev pub AreEven : Columns → Type 0
AreEven c = (length c.prev ≡ length c.next) × (length c.same ≡ length c.next) × (length c.held ≡ length c.next)

-- the cell is linked in, and holds the message
abbrev pub with_newest : Columns → ℕ → Waiting → Columns
with_newest c f w = with_held (with_link (with_link c (at c.prev 0) f) f 0) f w

module _ (c : Columns) (first last os : List ℕ) (f : ℕ) (fs : List ℕ) (w : Waiting) (even : AreEven c) (l : AreLinked c first last os (f ∷ fs)) where
  f_apart : Lacks (0 ∷ os) f
  f_apart = All-weaker (λ x. Lacks (f ∷ fs) x) (λ x. x ≢ f) (λ x lacks. Lacks-sym f x lacks.0) (0 ∷ os) (Differ-across (0 ∷ os) (f ∷ fs) l.differ)

  f_inside : f < length c.next
  f_inside = (All-right (λ o. o < length c.next) (0 ∷ os) (f ∷ fs) l.inside).0

  os_inside : AllByRecursion (λ o. o < length c.next) (0 ∷ os)
  os_inside = All-left (λ o. o < length c.next) (0 ∷ os) (f ∷ fs) l.inside

  appended-linked : IsLinked (with_newest c f w).next (with_newest c f w).prev 0 (os ++ f ∷ []) 0
  appended-linked =
      let fi = f_inside in
      let z : 0 < length c.next = os_inside.0 in
      linked-appended c.next c.prev os f (Differ-left (0 ∷ os) (f ∷ fs) l.differ) f_apart os_inside (omega arith) (omega (arith, length-set c.next (at c.prev 0) f)) (omega (arith, length-set c.prev f (at c.prev 0))) l.linked

  same_list : 0 ∷ (os ++ f ∷ fs) ≡ 0 ∷ ((os ++ f ∷ []) ++ fs)
  same_list = ap (λ (xs : List ℕ). 0 ∷ xs) (sym (append_assoc os (f ∷ []) fs))

  appended-differ : Differ (0 ∷ ((os ++ f ∷ []) ++ fs))
  appended-differ = subst Differ same_list l.differ

  appended-inside : AllByRecursion (λ o. o < length (with_newest c f w).next) (0 ∷ ((os ++ f ∷ []) ++ fs))
  appended-inside =
      let long : length (with_newest c f w).next ≡ length c.next = length-set (set c.next (at c.prev 0) f) f 0 ∙ length-set c.next (at c.prev 0) f in
      subst (λ (n : ℕ). AllByRecursion (λ o. o < n) (0 ∷ ((os ++ f ∷ []) ++ fs))) (sym long) (subst (λ (xs : List ℕ). AllByRecursion (λ o. o < length c.next) xs) same_list l.inside)

  held_inside : f < length c.held
  held_inside = let fi = f_inside in omega arith

  appended-ends : w.priority < length last → (p : ℕ) → EndsAt (at (set last w.priority f) p) (filter (has_priority (with_newest c f w).held p) (os ++ f ∷ []))
  appended-ends lt p = elim (eqb_tells w.priority p) [
    | inl own ↦ rw (filter-own c.held f w p os f_apart.1 held_inside own.0, ← own.1, get_or-set_same last w.priority f 0 lt) (ends-appended (filter (has_priority c.held w.priority) os) f)
    | inr other ↦ rw (filter-other c.held f w p os f_apart.1 held_inside other.0, get_or-set_other last w.priority p f 0 (Lacks-sym w.priority p other.1)) (l.ends p)
  ]

  -- the first of its priority
  alone-chains : w.priority < length first → at first w.priority ≡ 0 → (p : ℕ) → IsChain (with_newest c f w).same (at (set first w.priority f) p) (filter (has_priority (with_newest c f w).held p) (os ++ f ∷ []))
  alone-chains lt none p = elim (eqb_tells w.priority p) [
    | inl own ↦
        let empty : filter (has_priority c.held p) os ≡ [] = chain-empty c.same (at first p) (filter (has_priority c.held p) os) (ap (at first) (sym own.1) ∙ none) (all_kept_by (has_priority c.held p) (λ x. x ≢ 0) os (All-left (λ x. x ≢ 0) os (f ∷ fs) l.differ.0)) (l.chains p) in
        rw (filter-own c.held f w p os f_apart.1 held_inside own.0, empty) (ap (at (set first w.priority f)) (sym own.1) ∙ get_or-set_same first w.priority f 0 lt, get_or-set_same c.same f 0 0 (let fi = f_inside in omega arith))
    | inr other ↦
        rw (filter-other c.held f w p os f_apart.1 held_inside other.0, get_or-set_other first w.priority p f 0 (Lacks-sym w.priority p other.1)) (chain-set c.same f 0 (at first p) (filter (has_priority c.held p) os) (all_kept_by (has_priority c.held p) (λ x. x ≢ f) os f_apart.1) (l.chains p))
  ]

  pub appended-alone : w.priority < length first → w.priority < length last → at first w.priority ≡ 0 → AreLinked (with_newest c f w) (set first w.priority f) (set last w.priority f) (os ++ f ∷ []) fs
  appended-alone lt lt_last none = record {
    linked = appended-linked;
    differ = appended-differ;
    inside = appended-inside;
    chains = alone-chains lt none;
    ends = appended-ends lt_last;
  }

  -- behind others of its priority
  some_chain : (o : ℕ) (os : List ℕ) (same : List ℕ) (t h : ℕ) → EndsAt t os → h ≢ 0 → IsChain same h os → Differ os → Lacks os f → at same f ≡ 0 → AllByRecursion (λ o. o < length same) os → IsChain (set same t f) h (os ++ f ∷ [])
  some_chain d [] same t h ends some l differ lacks none inside = absurd (some l)
  some_chain d (o ∷ os) same t h ends some l differ lacks none inside =
      subst (λ (k : ℕ). IsChain (set same k f) h (o ∷ (os ++ f ∷ []))) (sym ends) (chain-longer same h o os f differ lacks none inside l)

  last_lacks : (P : ℕ → Type 0) (os : List ℕ) (same : List ℕ) (t h : ℕ) → EndsAt t os → h ≢ 0 → IsChain same h os → AllByRecursion P os → P t
  last_lacks P [] same t h ends some l all = absurd (some l)
  last_lacks P (o ∷ os) same t h ends some l all = subst P (sym ends) (All-last P o os all)

  pub appended-places : (f < length c.next) × (at c.prev 0 < length c.next)
  appended-places = (f_inside, prev-all (λ i. i < length c.next) c.next c.prev 0 os 0 os_inside l.linked)

  pub last_inside : at first w.priority ≢ 0 → at last w.priority < length c.next
  last_inside some = last_lacks (λ i. i < length c.next) (filter (has_priority c.held w.priority) os) c.same (at last w.priority) (at first w.priority) (l.ends w.priority) some (l.chains w.priority) (all_kept_by (has_priority c.held w.priority) (λ o. o < length c.next) os os_inside.1)

  behind-chains : at first w.priority ≢ 0 → (p : ℕ) → IsChain (with_same (with_newest c f w) (at last w.priority) f).same (at first p) (filter (has_priority (with_newest c f w).held p) (os ++ f ∷ []))
  behind-chains some p = elim (eqb_tells w.priority p) [
    | inl own ↦
        let kept = chain-set c.same f 0 (at first p) (filter (has_priority c.held p) os) (all_kept_by (has_priority c.held p) (λ x. x ≢ f) os f_apart.1) (l.chains p) in
        let long : length (set c.same f 0) ≡ length c.next = length-set c.same f 0 ∙ even.1 in
        let inside = subst (λ (n : ℕ). AllByRecursion (λ o. o < n) (filter (has_priority c.held p) os)) (sym long) (all_kept_by (has_priority c.held p) (λ o. o < length c.next) os os_inside.1) in
        let d = filter-differ (has_priority c.held p) os (Differ-left os (f ∷ fs) l.differ.1) in
        rw (filter-own c.held f w p os f_apart.1 held_inside own.0, own.1) (some_chain 0 (filter (has_priority c.held p) os) (set c.same f 0) (at last p) (at first p) (l.ends p) (subst (λ (k : ℕ). at first k ≢ 0) own.1 some) kept d (all_kept_by (has_priority c.held p) (λ x. x ≢ f) os f_apart.1) (get_or-set_same c.same f 0 0 (let fi = f_inside in omega arith)) inside)
    | inr other ↦
        let kept = chain-set c.same f 0 (at first p) (filter (has_priority c.held p) os) (all_kept_by (has_priority c.held p) (λ x. x ≢ f) os f_apart.1) (l.chains p) in
        let apart : Lacks (filter (has_priority c.held p) os) (at last w.priority) = last_lacks (λ i. Lacks (filter (has_priority c.held p) os) i) (filter (has_priority c.held w.priority) os) c.same (at last w.priority) (at first w.priority) (l.ends w.priority) some (l.chains w.priority) (filters-apart c.held p w.priority os other.1) in
        rw (filter-other c.held f w p os f_apart.1 held_inside other.0) (chain-set (set c.same f 0) (at last w.priority) f (at first p) (filter (has_priority c.held p) os) apart kept)
  ]

  pub appended-behind : w.priority < length last → at first w.priority ≢ 0 → AreLinked (with_same (with_newest c f w) (at last w.priority) f) first (set last w.priority f) (os ++ f ∷ []) fs
  appended-behind lt_last some = record {
    linked = appended-linked;
    differ = appended-differ;
    inside = appended-inside;
    chains = behind-chains some;
    ends = appended-ends lt_last;
  }

  -- the others stay free
  pub appended-spare : (n h : ℕ) → walk c.next n h ≡ fs → walk (with_newest c f w).next n h ≡ fs
  appended-spare n h is =
      let p = at c.prev 0 in
      let lacks : Lacks (f ∷ fs) p = prev-all (λ i. Lacks (f ∷ fs) i) c.next c.prev 0 os 0 (Differ-across (0 ∷ os) (f ∷ fs) l.differ) l.linked in
      let behind = Differ-right (0 ∷ os) (f ∷ fs) l.differ in
      let first_write : walk (set c.next p f) n h ≡ fs = walk-set c.next p f n h (subst (λ (r : List ℕ). Lacks r p) (sym is) lacks.1) ∙ is in
      walk-set (set c.next p f) f 0 n h (subst (λ (r : List ℕ). Lacks r f) (sym first_write) behind.0) ∙ first_write

  -- what waits then
  pub appended-held : map (held_at (with_newest c f w).held) (os ++ f ∷ []) ≡ map (held_at c.held) os ++ w ∷ []
  appended-held =
      map-append (held_at (with_newest c f w).held) os (f ∷ [])
      ∙ ap (λ (r : List Waiting). r ++ held_at (set c.held f w) f ∷ []) (map-same (held_at (set c.held f w)) (held_at c.held) os (held-others c.held f w os f_apart.1))
      ∙ ap (λ (x : Waiting). map (held_at c.held) os ++ x ∷ []) (get_or-set_same c.held f w _ held_inside)

-- ---- a message is taken

abbrev pub taken_out : Columns → ℕ → ℕ → Columns
taken_out c o free = with_next (with_link c (at c.prev o) (at c.next o)) o free

module _ (c : Columns) (first last xs : List ℕ) (o : ℕ) (ys fs : List ℕ) (free : ℕ) (even : AreEven c) (l : AreLinked c first last (xs ++ o ∷ ys) fs) where
  order_differ : Differ (0 ∷ (xs ++ o ∷ ys))
  order_differ = Differ-left (0 ∷ (xs ++ o ∷ ys)) fs l.differ

  order_inside : AllByRecursion (λ i. i < length c.next) (0 ∷ (xs ++ o ∷ ys))
  order_inside = All-left (λ i. i < length c.next) (0 ∷ (xs ++ o ∷ ys)) fs l.inside

  taken-linked : IsLinked (taken_out c o free).next (taken_out c o free).prev 0 (xs ++ ys) 0
  taken-linked =
      let out = linked-taken c.next c.prev xs o ys order_differ order_inside even.0 l.linked in
      let apart = (Differ-take_out (0 ∷ xs) o ys order_differ).0 in
      linked-set_next (set c.next (at c.prev o) (at c.next o)) (set c.prev (at c.next o) (at c.prev o)) o free 0 (xs ++ ys) 0 apart out

  taken-inside : AllByRecursion (λ i. i < length (taken_out c o free).next) (0 ∷ ((xs ++ ys) ++ o ∷ fs))
  taken-inside =
      let long : length (taken_out c o free).next ≡ length c.next = length-set (set c.next (at c.prev o) (at c.next o)) o free ∙ length-set c.next (at c.prev o) (at c.next o) in
      subst (λ (n : ℕ). AllByRecursion (λ i. i < n) (0 ∷ ((xs ++ ys) ++ o ∷ fs))) (sym long) (All-moved (λ i. i < length c.next) (0 ∷ xs) o ys fs l.inside)

  -- it is free, and the others stay free
  pub taken-spare : (n : ℕ) → walk c.next n free ≡ fs → walk (taken_out c o free).next (suc n) o ≡ o ∷ fs
  taken-spare n is =
      let p = at c.prev o in
      let m = at c.next o in
      let across = Differ-across (0 ∷ (xs ++ o ∷ ys)) fs l.differ in
      let lacks_o : Lacks fs o = (All-right (λ x. Lacks fs x) (0 ∷ xs) (o ∷ ys) across).0 in
      let lacks_p : Lacks fs p = prev-all (λ x. Lacks fs x) c.next c.prev 0 xs o (All-left (λ x. Lacks fs x) (0 ∷ xs) (o ∷ ys) across) (linked-split c.next c.prev 0 xs o ys 0 l.linked).0 in
      let inside : o < length c.next = (All-right (λ i. i < length c.next) (0 ∷ xs) (o ∷ ys) order_inside).0 in
      let first_write : walk (set c.next p m) n free ≡ fs = walk-set c.next p m n free (subst (λ (r : List ℕ). Lacks r p) (sym is) lacks_p) ∙ is in
      let second_write : walk (set (set c.next p m) o free) n free ≡ fs = walk-set (set c.next p m) o free n free (subst (λ (r : List ℕ). Lacks r o) (sym first_write) lacks_o) ∙ first_write in
      let leads : at (set (set c.next p m) o free) o ≡ free = get_or-set_same (set c.next p m) o free 0 (omega (arith, length-set c.next p m)) in
      ap (λ (h : ℕ). o ∷ walk (set (set c.next p m) o free) n h) leads ∙ ap (λ (r : List ℕ). o ∷ r) second_write

  -- each place that is named is one of the cells
  pub taken-places : (o < length c.next) × (at c.prev o < length c.next) × (at c.next o < length c.next)
  taken-places =
      let inside = order_inside in
      let split = linked-split c.next c.prev 0 xs o ys 0 l.linked in
      let behind = All-right (λ i. i < length c.next) (0 ∷ xs) (o ∷ ys) inside in (
        behind.0,
        prev-all (λ i. i < length c.next) c.next c.prev 0 xs o (All-left (λ i. i < length c.next) (0 ∷ xs) (o ∷ ys) inside) split.0,
        next-all (λ i. i < length c.next) c.next c.prev o ys 0 (All-append (λ (i : ℕ). i < length c.next) ys (0 ∷ []) behind.1 (inside.0, tt)) split.1,
      )

  module _ (none : filter (has_priority c.held (held_at c.held o).priority) xs ≡ []) (lt : (held_at c.held o).priority < length first) where
    own_list : (p : ℕ) → ((held_at c.held o).priority == p) ≡ true → (held_at c.held o).priority ≡ p → (filter (has_priority c.held p) (xs ++ o ∷ ys) ≡ o ∷ filter (has_priority c.held p) ys) × (filter (has_priority c.held p) (xs ++ ys) ≡ filter (has_priority c.held p) ys)
    own_list p is same =
        let t = has_priority c.held p in
        let front : filter t xs ≡ [] = subst (λ (k : ℕ). filter (has_priority c.held k) xs ≡ []) same none in
        (filter-append t xs (o ∷ ys) ∙ ap (λ (r : List ℕ). r ++ filter t (o ∷ ys)) front ∙ ap (λ b. cond b (o ∷ filter t ys) (filter t ys)) is, filter-append t xs ys ∙ ap (λ (r : List ℕ). r ++ filter t ys) front)

    other_list : (p : ℕ) → ((held_at c.held o).priority == p) ≡ false → filter (has_priority c.held p) (xs ++ o ∷ ys) ≡ filter (has_priority c.held p) (xs ++ ys)
    other_list p is =
        let t = has_priority c.held p in
        filter-append t xs (o ∷ ys) ∙ ap (λ b. filter t xs ++ cond b (o ∷ filter t ys) (filter t ys)) is ∙ sym (filter-append t xs ys)

    ends-rest : (t i : ℕ) (os : List ℕ) → EndsAt t (i ∷ os) → EndsAt t os
    ends-rest t i [] e = tt
    ends-rest t i (x ∷ os) e = e

    taken-ends : (p : ℕ) → EndsAt (at last p) (filter (has_priority c.held p) (xs ++ ys))
    taken-ends p = elim (eqb_tells (held_at c.held o).priority p) [
      | inl own ↦
          let lists = own_list p own.0 own.1 in
          rw lists.1 (ends-rest (at last p) o (filter (has_priority c.held p) ys) (subst (λ (r : List ℕ). EndsAt (at last p) r) lists.0 (l.ends p)))
      | inr other ↦ subst (λ (r : List ℕ). EndsAt (at last p) r) (other_list p other.0) (l.ends p)
    ]

    taken-chains : (p : ℕ) → IsChain c.same (at (set first (held_at c.held o).priority (at c.same o)) p) (filter (has_priority c.held p) (xs ++ ys))
    taken-chains p = elim (eqb_tells (held_at c.held o).priority p) [
      | inl own ↦
          let lists = own_list p own.0 own.1 in
          let old : IsChain c.same (at first p) (o ∷ filter (has_priority c.held p) ys) = subst (λ (r : List ℕ). IsChain c.same (at first p) r) lists.0 (l.chains p) in
          rw (lists.1, ← own.1, get_or-set_same first (held_at c.held o).priority (at c.same o) 0 lt) (rw own.1 old.1)
      | inr other ↦ rw (get_or-set_other first (held_at c.held o).priority p (at c.same o) 0 (Lacks-sym (held_at c.held o).priority p other.1)) (subst (λ (r : List ℕ). IsChain c.same (at first p) r) (other_list p other.0) (l.chains p))
    ]

    pub taken : AreLinked (taken_out c o free) (set first (held_at c.held o).priority (at c.same o)) last (xs ++ ys) (o ∷ fs)
    taken = record {
      linked = taken-linked;
      differ = Differ-moved (0 ∷ xs) o ys fs l.differ;
      inside = taken-inside;
      chains = taken-chains;
      ends = taken-ends;
    }
