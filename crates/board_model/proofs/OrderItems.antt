-- Items of queues, each brought by frames of its own: which are the same, and what is left of a list where others are gone from it.
use Rattle.std.proofs.Common.{◌≡◌, ℕ, ◌+◌, ◌<◌, Bool, true, false, not, cond, List, [], ◌∷◌, ◌++◌, filter, find, Some, refl, sym, ap, ◌∙◌, subst, arith}
use Rattle.std.specs.Prelude.{◌==◌, ◌&&◌, ◌||◌}
use Rattle.std.specs.List.{AllByRecursion, list_any}
use Rattle.std.proofs.lemmas.Bool.{eqb-true, eq-eqb}
use Rattle.std.proofs.lemmas.Slice.Eq.{bytes_eq-Decides}
use Rattle.std.specs.Str.{bytes_eq}
use Rattle.board_model.specs.Lists.{without_first}
use Rattle.board_model.specs.State.{Item}
use Rattle.board_model.specs.Deeds.{Deed}
use Rattle.board_model.specs.MessageOrder.{is_same}
use Rattle.board_model.proofs.DeedRuns.{taken_by, count_taken}

-- the item came before: its last frame is among those taken
pub record IsPast (before : List Deed) (i : Item) : Type 0 where
  pub name : ℕ
  pub front : List ℕ
  pub frame : i.frames ≡ front ++ name ∷ []
  pub past : name < count_taken i.peer before

-- the next that is taken
abbrev pub LastIs : List Deed → ℕ → List ℕ → Type 0
LastIs before peer names = (front : List ℕ) × (names ≡ front ++ count_taken peer before ∷ [])

abbrev pub IsNext : List Deed → Item → Type 0
IsNext before i = LastIs before i.peer i.frames

pub taken_append : (p : ℕ) (xs : List Deed) (d : Deed) → count_taken p (xs ++ d ∷ []) ≡ count_taken p xs + taken_by p d
taken_append p [] d = omega arith
taken_append p (x ∷ xs) d = omega (arith, taken_append p xs d)

-- ---- items that came before, after one deed more

pub past_more : (before : List Deed) (d : Deed) (i : Item) → IsPast before i → IsPast (before ++ d ∷ []) i
past_more before d i past = record { name = past.name; front = past.front; frame = past.frame; past = omega (arith, past.past, taken_append i.peer before d) }

pub all_past_more : (before : List Deed) (d : Deed) (is : List Item) → AllByRecursion (IsPast before) is → AllByRecursion (IsPast (before ++ d ∷ [])) is
all_past_more before d [] all = tt
all_past_more before d (i ∷ is) all = (past_more before d i all.0, all_past_more before d is all.1)

-- the next is past after the deed that takes it
pub next_past_after : (before : List Deed) (d : Deed) (i : Item) → IsNext before i → taken_by i.peer d ≡ 1 → IsPast (before ++ d ∷ []) i
next_past_after before d i next one = record { name = count_taken i.peer before; front = next.0; frame = next.1; past = omega (arith, one, taken_append i.peer before d) }

-- ---- the same items

bytes_true : (xs ys : List ℕ) → bytes_eq xs ys ≡ true → xs ≡ ys
bytes_true xs ys e = (bytes_eq-Decides xs ys).0 e

bytes_same : (xs : List ℕ) → bytes_eq xs xs ≡ true
bytes_same xs = (bytes_eq-Decides xs xs).1 refl

pub same_self : (i : Item) → is_same i i ≡ true
same_self i = rw (eq-eqb i.peer i.peer refl) (bytes_same i.frames)

-- the last of a list
last_of : List ℕ → ℕ
last_of [] = 0
last_of (x ∷ []) = x
last_of (x ∷ y ∷ ys) = last_of (y ∷ ys)

last_append : (xs : List ℕ) (n : ℕ) → last_of (xs ++ n ∷ []) ≡ n
unfolding last_of
last_append [] n = refl
last_append (x ∷ []) n = refl
last_append (x ∷ y ∷ ys) n = last_append (y ∷ ys) n

last_is : (xs ys : List ℕ) (n m : ℕ) → xs ++ n ∷ [] ≡ ys ++ m ∷ [] → n ≡ m
last_is xs ys n m e = sym (last_append xs n) ∙ (ap last_of e ∙ last_append ys m)

not_both : (a b : Bool) → (a ≡ true → b ≡ true → ⊥) → (a && b) ≡ false
not_both true true no_both = absurd (no_both refl refl)
not_both true false no_both = refl
not_both false b no_both = refl

pub past_next : (before : List Deed) (i j : Item) → IsPast before i → IsNext before j → is_same i j ≡ false
past_next before i j past next = not_both (i.peer == j.peer) (bytes_eq i.frames j.frames) (λ peer frames.
    let same : i.peer ≡ j.peer = eqb-true i.peer j.peer peer in
    let is : past.name ≡ count_taken j.peer before = last_is past.front next.0 past.name (count_taken j.peer before) (sym past.frame ∙ (bytes_true i.frames j.frames frames ∙ next.1)) in
    let low : past.name < count_taken j.peer before = subst (λ p. past.name < count_taken p before) same past.past in
    omega arith)

pub next_past : (before : List Deed) (i j : Item) → IsNext before i → IsPast before j → is_same i j ≡ false
next_past before i j next past = not_both (i.peer == j.peer) (bytes_eq i.frames j.frames) (λ peer frames.
    let same : i.peer ≡ j.peer = eqb-true i.peer j.peer peer in
    let is : past.name ≡ count_taken i.peer before = last_is past.front next.0 past.name (count_taken i.peer before) (sym past.frame ∙ (sym (bytes_true i.frames j.frames frames) ∙ next.1)) in
    let low : past.name < count_taken i.peer before = subst (λ p. past.name < count_taken p before) (sym same) past.past in
    omega arith)

-- ---- what is left

abbrev pub left_of : List Item → List Item → List Item
left_of gone is = filter (λ i. not (list_any (is_same i) gone)) is

pub left_none : (is : List Item) → left_of [] is ≡ is
left_none [] = refl
left_none (i ∷ is) = ap (λ xs. i ∷ xs) (left_none is)

pub left_append : (gone xs ys : List Item) → left_of gone (xs ++ ys) ≡ left_of gone xs ++ left_of gone ys
left_append gone [] ys = refl
left_append gone (x ∷ xs) ys = go (not (list_any (is_same x) gone)) (left_append gone xs ys)
  where
    go : (b : Bool) → left_of gone (xs ++ ys) ≡ left_of gone xs ++ left_of gone ys → cond b (x ∷ left_of gone (xs ++ ys)) (left_of gone (xs ++ ys)) ≡ cond b (x ∷ left_of gone xs) (left_of gone xs) ++ left_of gone ys
    go true more = ap (λ zs. x ∷ zs) more
    go false more = more

any_append : (i : Item) (xs ys : List Item) → list_any (is_same i) (xs ++ ys) ≡ (list_any (is_same i) xs || list_any (is_same i) ys)
any_append i [] ys = refl
any_append i (x ∷ xs) ys = elim (is_same i x) as (λ b. (b || list_any (is_same i) (xs ++ ys)) ≡ ((b || list_any (is_same i) xs) || list_any (is_same i) ys)) [ true ↦ refl | false ↦ any_append i xs ys ]

pub left_twice : (gone more is : List Item) → left_of (gone ++ more) is ≡ left_of more (left_of gone is)
left_twice gone more [] = refl
left_twice gone more (i ∷ is) = ap (λ b. cond (not b) (i ∷ left_of (gone ++ more) is) (left_of (gone ++ more) is)) (any_append i gone more) ∙ go (list_any (is_same i) gone) (list_any (is_same i) more) refl (left_twice gone more is)
  where
    go : (a b : Bool) → list_any (is_same i) more ≡ b → left_of (gone ++ more) is ≡ left_of more (left_of gone is) →
        cond (not (a || b)) (i ∷ left_of (gone ++ more) is) (left_of (gone ++ more) is) ≡ left_of more (cond (not a) (i ∷ left_of gone is) (left_of gone is))
    go true b at more_is = more_is
    go false true at more_is = more_is ∙ sym (ap (λ b. cond (not b) (i ∷ left_of more (left_of gone is)) (left_of more (left_of gone is))) at)
    go false false at more_is = ap (λ zs. i ∷ zs) more_is ∙ sym (ap (λ b. cond (not b) (i ∷ left_of more (left_of gone is)) (left_of more (left_of gone is))) at)

-- none of the ones is among the others
abbrev pub NoneSame : List Item → Item → Type 0
NoneSame gone i = list_any (is_same i) gone ≡ false

pub left_all : (gone is : List Item) → AllByRecursion (NoneSame gone) is → left_of gone is ≡ is
left_all gone [] all = refl
left_all gone (i ∷ is) all = rw all.0 (ap (λ xs. i ∷ xs) (left_all gone is all.1))

pub none_in_past : (before : List Deed) (i : Item) (gone : List Item) → IsNext before i → AllByRecursion (IsPast before) gone → NoneSame gone i
none_in_past before i [] next all = refl
none_in_past before i (g ∷ gone) next all = rw (next_past before i g next all.0) (none_in_past before i gone next all.1)

pub none_in_next : (before : List Deed) (gone : List Item) (i : Item) → IsPast before i → AllByRecursion (IsNext before) gone → NoneSame gone i
none_in_next before [] i past all = refl
none_in_next before (g ∷ gone) i past all = rw (past_next before i g past all.0) (none_in_next before gone i past all.1)

pub all_none_next : (before : List Deed) (gone is : List Item) → AllByRecursion (IsPast before) is → AllByRecursion (IsNext before) gone → AllByRecursion (NoneSame gone) is
all_none_next before gone [] all next = tt
all_none_next before gone (i ∷ is) all next = (none_in_next before gone i all.0 next, all_none_next before gone is all.1 next)

-- all are gone
pub left_self_from : (seen is : List Item) → left_of (seen ++ is) is ≡ []
left_self_from seen [] = refl
left_self_from seen (i ∷ is) =
    ap (λ b. cond (not b) (i ∷ left_of (seen ++ i ∷ is) is) (left_of (seen ++ i ∷ is) is)) (here seen)
    ∙ subst (λ zs. left_of zs is ≡ []) (one_more seen i is) (left_self_from (seen ++ i ∷ []) is)
  where
    here : (seen : List Item) → list_any (is_same i) (seen ++ i ∷ is) ≡ true
    here [] = rw (same_self i) refl
    here (s ∷ seen) = elim (is_same i s) as (λ b. (b || list_any (is_same i) (seen ++ i ∷ is)) ≡ true) [ true ↦ refl | false ↦ here seen ]

    one_more : (xs : List Item) (x : Item) (ys : List Item) → (xs ++ x ∷ []) ++ ys ≡ xs ++ x ∷ ys
    one_more [] x ys = refl
    one_more (y ∷ xs) x ys = ap (λ zs. y ∷ zs) (one_more xs x ys)

pub left_self : (is : List Item) → left_of is is ≡ []
left_self is = left_self_from [] is

-- ---- items that differ

abbrev pub Unlike : Item → Item → Type 0
Unlike i j = (is_same i j ≡ false) × (is_same j i ≡ false)

abbrev pub Apart : List Item → Type 0
Apart [] = Unit {0}
Apart (i ∷ is) = AllByRecursion (Unlike i) is × Apart is

pub apart_last : (before : List Deed) (is : List Item) (i : Item) → Apart is → AllByRecursion (IsPast before) is → IsNext before i → Apart (is ++ i ∷ [])
apart_last before [] i apart past next = (tt, tt)
apart_last before (x ∷ xs) i apart past next = (last xs apart.0, apart_last before xs i apart.1 past.1 next)
  where
    last : (ys : List Item) → AllByRecursion (Unlike x) ys → AllByRecursion (Unlike x) (ys ++ i ∷ [])
    last [] all = ((past_next before x i past.0 next, next_past before i x next past.0), tt)
    last (y ∷ ys) all = (all.0, last ys all.1)

all_less : (P : Item → Type 0) (p : Item → Bool) (is : List Item) → AllByRecursion P is → AllByRecursion P (without_first p is)
all_less P p [] all = tt
all_less P p (i ∷ is) all = go (p i) (all_less P p is all.1)
  where
    go : (b : Bool) → AllByRecursion P (without_first p is) → AllByRecursion P (cond b is (i ∷ without_first p is))
    go true more = all.1
    go false more = (all.0, more)

pub all_without_first : (P : Item → Type 0) (p : Item → Bool) (is : List Item) → AllByRecursion P is → AllByRecursion P (without_first p is)
all_without_first P p is all = all_less P p is all

pub apart_without_first : (p : Item → Bool) (is : List Item) → Apart is → Apart (without_first p is)
apart_without_first p [] apart = tt
apart_without_first p (i ∷ is) apart = go (p i) (apart_without_first p is apart.1)
  where
    go : (b : Bool) → Apart (without_first p is) → Apart (cond b is (i ∷ without_first p is))
    go true more = apart.1
    go false more = (all_less (Unlike i) p is apart.0, more)

-- the first that passes is gone
found_in : (P : Item → Type 0) (p : Item → Bool) (is : List Item) (b : Item) → find p is ≡ Some b → AllByRecursion P is → P b
found_in P p [] b found all = absurd cc
found_in P p (i ∷ is) b found all = go (p i) found (λ k. found_in P p is b k all.1)
  where
    go : (c : Bool) → cond c (Some i) (find p is) ≡ Some b → (find p is ≡ Some b → P b) → P b
    go true k later = let same : i ≡ b = cc in subst P same all.0
    go false k later = later k

pub found_all : (P : Item → Type 0) (p : Item → Bool) (is : List Item) (b : Item) → find p is ≡ Some b → AllByRecursion P is → P b
found_all P p is b found all = found_in P p is b found all

all_unlike : (b : Item) (is : List Item) → AllByRecursion (Unlike b) is → AllByRecursion (NoneSame (b ∷ [])) is
all_unlike b [] all = tt
all_unlike b (i ∷ is) all = (let unlike : is_same i b ≡ false = all.0.1 in rw unlike refl, all_unlike b is all.1)

pub left_first : (p : Item → Bool) (is : List Item) (b : Item) → find p is ≡ Some b → Apart is → left_of (b ∷ []) is ≡ without_first p is
left_first p [] b found apart = absurd cc
left_first p (i ∷ is) b found apart = go (p i) found (λ k. left_first p is b k apart.1)
  where
    go : (c : Bool) → cond c (Some i) (find p is) ≡ Some b → (find p is ≡ Some b → left_of (b ∷ []) is ≡ without_first p is) → left_of (b ∷ []) (i ∷ is) ≡ cond c is (i ∷ without_first p is)
    go true k later =
        let same : i ≡ b = cc in
        let self : is_same i b ≡ true = subst (λ x. is_same i x ≡ true) same (same_self i) in
        rw self (left_all (b ∷ []) is (all_unlike b is (subst (λ x. AllByRecursion (Unlike x) is) same apart.0)))
    go false k later =
        let unlike : Unlike i b = found_in (Unlike i) p is b k apart.0 in
        rw unlike.0 (ap (λ xs. i ∷ xs) (later k))
