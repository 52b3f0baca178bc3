-- What each deed takes: where a receive answers, where a request is given complete, and where an item is handed to one that waits.
use Rattle.std.proofs.Common.{◌≡◌, ◌⊎◌, inl, inr, ℕ, zero, suc, ◌<◌, Bool, true, false, cond, List, [], ◌∷◌, ◌++◌, map, find, flat_map, Option, Some, None, refl, sym, ap, ◌∙◌, subst, arith}
use Rattle.std.specs.Prelude.{◌==◌, ◌&&◌, ◌||◌, is_none}
use Rattle.std.specs.List.{AllByRecursion, list_any}
use Rattle.mc_base.specs.declared.refusal.Refusal.{Refusal}
use Rattle.std.proofs.lemmas.Bool.{eqb-true, eq-eqb, ne_eqb, cases_Bool, and_parts}
use Rattle.std.proofs.lemmas.List.{append-nil}
use Rattle.board_model.specs.Lists.{changed_first, without, without_at}
use Rattle.board_model.specs.State.{Item, Endpoint, Asked, Outcome, has_address, is_accepted, is_rejected, has_item, has_ended, Request, DomainState, waits_at, receives_at, oldest_waiting}
use Rattle.board_model.specs.Change.{done_with, all_done, handed_in, ended_in}
use Rattle.board_model.specs.Takings.{Taking, taking, item_held, holds_item, held_before, asked_address, completed_by}
use Rattle.board_model.proofs.OrderSerials.{IsOther, Differ, Below}

-- the takings of all these requests, by what was held before
abbrev pub taken_of : DomainState → List Request → List Taking
taken_of s rs = flat_map (completed_by s) rs

-- ---- requests that take nothing: they hold no item, or held one before

abbrev pub IsOld : DomainState → Request → Type 0
IsOld s r = (item_held r.outcome ≡ []) ⊎ (held_before s r.serial ≡ true)

old_takes_none : (s : DomainState) (r : Request) → IsOld s r → completed_by s r ≡ []
old_takes_none s r (inl none) = go (held_before s r.serial) (item_held r.outcome) none
  where
    go : (b : Bool) (is : List Item) → is ≡ [] → cond b [] (flat_map (λ i. map (λ a. taking (Some r.serial) a i) (asked_address s r.asked)) is) ≡ []
    go true is none = refl
    go false [] none = refl
    go false (i ∷ is) none = absurd cc
old_takes_none s r (inr held) = ap (λ (b : Bool). cond b [] (flat_map (λ i. map (λ a. taking (Some r.serial) a i) (asked_address s r.asked)) (item_held r.outcome))) held

pub none_taken : (s : DomainState) (rs : List Request) → AllByRecursion (IsOld s) rs → taken_of s rs ≡ []
none_taken s [] all = refl
none_taken s (r ∷ rs) all = rw (old_takes_none s r all.0, none_taken s rs all.1) refl

-- each request of the state is one
found_held : (k : ℕ) (rs : List Request) (r : Request) (more : List Request) → (r.serial == k) ≡ true → holds_item r.outcome ≡ true → list_any (λ q. q.serial == k && holds_item q.outcome) (rs ++ r ∷ more) ≡ true
found_held k [] r more same holds = rw (same, holds) refl
found_held k (q ∷ rs) r more same holds = elim (q.serial == k && holds_item q.outcome) as (λ b. (b || list_any (λ x. x.serial == k && holds_item x.outcome) (rs ++ r ∷ more)) ≡ true) [ true ↦ refl | false ↦ found_held k rs r more same holds ]

holds_or_none : (o : Option Outcome) → (item_held o ≡ []) ⊎ (holds_item o ≡ true)
holds_or_none None = inl refl
holds_or_none (Some (has_item i)) = inr refl
holds_or_none (Some (has_address a)) = inl refl
holds_or_none (Some is_accepted) = inl refl
holds_or_none (Some (is_rejected w)) = inl refl
holds_or_none (Some (has_ended w)) = inl refl

all_old_from : (s : DomainState) (before rs : List Request) → before ++ rs ≡ s.requests → AllByRecursion (IsOld s) rs
all_old_from s before [] is = tt
all_old_from s before (r ∷ rs) is = (here (holds_or_none r.outcome), all_old_from s (before ++ r ∷ []) rs (append_one before r rs ∙ is))
  where
    append_one : (xs : List Request) (x : Request) (ys : List Request) → (xs ++ x ∷ []) ++ ys ≡ xs ++ x ∷ ys
    append_one [] x ys = refl
    append_one (y ∷ xs) x ys = ap (λ zs. y ∷ zs) (append_one xs x ys)

    here : (item_held r.outcome ≡ []) ⊎ (holds_item r.outcome ≡ true) → IsOld s r
    here (inl none) = inl none
    here (inr holds) = inr (subst (λ qs. list_any (λ q. q.serial == r.serial && holds_item q.outcome) qs ≡ true) is (found_held r.serial before r rs (eq-eqb r.serial r.serial refl) holds))

pub all_old : (s : DomainState) → AllByRecursion (IsOld s) s.requests
all_old s = all_old_from s [] s.requests refl

-- ---- requests that change without an item, and that are gone

pub old_mapped : (s : DomainState) (f : Request → Request) → ((r : Request) → IsOld s r → IsOld s (f r)) → (rs : List Request) → AllByRecursion (IsOld s) rs → AllByRecursion (IsOld s) (map f rs)
old_mapped s f keeps [] all = tt
old_mapped s f keeps (r ∷ rs) all = (keeps r all.0, old_mapped s f keeps rs all.1)

pub old_done : (s : DomainState) (b : Bool) (o : Outcome) (r : Request) → item_held (Some o) ≡ [] → IsOld s r → IsOld s (cond b (done_with o r) r)
old_done s true o r none old = inl none
old_done s false o r none old = old

-- all that ask so are complete without an item; all that wait at an endpoint end
pub done_old : (s : DomainState) (asks : Asked → Bool) (o : Outcome) → item_held (Some o) ≡ [] → AllByRecursion (IsOld s) (map (all_done asks o) s.requests)
done_old s asks o none = old_mapped s (all_done asks o) (λ r old. old_done s (is_none r.outcome && asks r.asked) o r none old) s.requests (all_old s)

pub ended_old : (s : DomainState) (o : Option Endpoint) (w : Refusal) → AllByRecursion (IsOld s) (ended_in o w s.requests)
ended_old s None w = all_old s
ended_old s (Some e) w = old_mapped s (λ r. cond (waits_at e.local r) (done_with (has_ended w) r) r) (λ r old. old_done s (waits_at e.local r) (has_ended w) r refl old) s.requests (all_old s)

pub old_without : (s : DomainState) (place : Option ℕ) (rs : List Request) → AllByRecursion (IsOld s) rs → AllByRecursion (IsOld s) (without place rs)
old_without s None rs all = all
old_without s (Some i) rs all = go i rs all
  where
    go : (i : ℕ) (rs : List Request) → AllByRecursion (IsOld s) rs → AllByRecursion (IsOld s) (without_at i rs)
    go i [] all = tt
    go zero (r ∷ rs) all = all.1
    go (suc i) (r ∷ rs) all = (all.0, go i rs all.1)

-- ---- a request that was not held before

none_holds_as : (k : ℕ) (rs : List Request) → AllByRecursion (λ q. (q.serial == k && holds_item q.outcome) ≡ false) rs → list_any (λ q. q.serial == k && holds_item q.outcome) rs ≡ false
none_holds_as k [] all = refl
none_holds_as k (r ∷ rs) all = rw all.0 (none_holds_as k rs all.1)

other_holds : (k : ℕ) (rs : List Request) → AllByRecursion (IsOther k) rs → AllByRecursion (λ q. (q.serial == k && holds_item q.outcome) ≡ false) rs
other_holds k [] all = tt
other_holds k (r ∷ rs) all = (ap (λ b. b && holds_item r.outcome) all.0, other_holds k rs all.1)

-- one that is pending among requests whose serials differ
pending_holds : (p : Request → Bool) (rs : List Request) (r : Request) → Differ rs → find p rs ≡ Some r → is_none r.outcome ≡ true → AllByRecursion (λ q. (q.serial == r.serial && holds_item q.outcome) ≡ false) rs
pending_holds p [] r d is none = tt
pending_holds p (x ∷ xs) r d is none = go (p x) is (λ k. pending_holds p xs r d.1 k none)
  where
    nothing_held : (o : Option Outcome) → is_none o ≡ true → (b : Bool) → (b && holds_item o) ≡ false
    nothing_held None e true = refl
    nothing_held None e false = refl
    nothing_held (Some o) e b = absurd cc

    away : (xs : List Request) (y : Request) → find p xs ≡ Some y → AllByRecursion (IsOther x.serial) xs → (y.serial == x.serial) ≡ false
    away [] y k all = absurd cc
    away (q ∷ qs) y k all = at (p q) k (λ l. away_rest qs y l all.1)
      where
        away_rest : (xs : List Request) (y : Request) → find p xs ≡ Some y → AllByRecursion (IsOther x.serial) xs → (y.serial == x.serial) ≡ false
        away_rest [] y k all = absurd cc
        away_rest (z ∷ zs) y k all = elim (cases_Bool (p z)) [
          | inl on ↦ let found : Some z ≡ Some y = sym (ap (λ (b : Bool). cond b (Some z) (find p zs)) on) ∙ k in let same : z ≡ y = cc in subst (λ v. (v.serial == x.serial) ≡ false) same all.0
          | inr off ↦ away_rest zs y (sym (ap (λ (b : Bool). cond b (Some z) (find p zs)) off) ∙ k) all.1
        ]

        at : (b : Bool) → cond b (Some q) (find p qs) ≡ Some y → (find p qs ≡ Some y → (y.serial == x.serial) ≡ false) → (y.serial == x.serial) ≡ false
        at true k later = let same : q ≡ y = cc in subst (λ v. (v.serial == x.serial) ≡ false) same all.0
        at false k later = later k

    turned : (a b : ℕ) → (a == b) ≡ false → (b == a) ≡ false
    turned a b other = grind (arith, eqb-true, eq-eqb)

    go : (b : Bool) → cond b (Some x) (find p xs) ≡ Some r → (find p xs ≡ Some r → AllByRecursion (λ q. (q.serial == r.serial && holds_item q.outcome) ≡ false) xs) → AllByRecursion (λ q. (q.serial == r.serial && holds_item q.outcome) ≡ false) (x ∷ xs)
    go true k later =
        let same : x ≡ r = cc in
        (nothing_held x.outcome (subst (λ y. is_none y.outcome ≡ true) (sym same) none) (x.serial == r.serial), other_holds r.serial xs (subst (λ y. AllByRecursion (IsOther y.serial) xs) same d.0))
    go false k later = (ap (λ b. b && holds_item x.outcome) (turned r.serial x.serial (away xs r k d.0)), later k)

pub not_held : (s : DomainState) (p : Request → Bool) (r : Request) → Differ s.requests → find p s.requests ≡ Some r → is_none r.outcome ≡ true → held_before s r.serial ≡ false
not_held s p r d is none = none_holds_as r.serial s.requests (pending_holds p s.requests r d is none)

new_other : (n : ℕ) (rs : List Request) → Below n rs → AllByRecursion (IsOther n) rs
new_other n [] all = tt
new_other n (r ∷ rs) all = (let low : r.serial < n = all.0 in ne_eqb r.serial n (λ same. absurd (omega arith)), new_other n rs all.1)

pub new_not_held : (s : DomainState) → Below s.requests_given s.requests → held_before s s.requests_given ≡ false
new_not_held s below = none_holds_as s.requests_given s.requests (other_holds s.requests_given s.requests (new_other s.requests_given s.requests below))

-- ---- the takings of a request that becomes complete

pub taken_now : (s : DomainState) (serial : ℕ) (asked : Asked) (i : Item) → held_before s serial ≡ false →
    completed_by s (record { serial = serial; asked = asked; outcome = Some (has_item i) }) ≡ map (λ a. taking (Some serial) a i) (asked_address s asked)
taken_now s serial asked i new = ap (λ (b : Bool). cond b [] (map (λ a. taking (Some serial) a i) (asked_address s asked) ++ [])) new ∙ append-nil (map (λ a. taking (Some serial) a i) (asked_address s asked))

-- the oldest that waits is handed an item
taken_first : (s : DomainState) (p : Request → Bool) (i : Item) (rs : List Request) (r : Request) → find p rs ≡ Some r → AllByRecursion (IsOld s) rs → held_before s r.serial ≡ false →
    taken_of s (changed_first p (done_with (has_item i)) rs) ≡ map (λ a. taking (Some r.serial) a i) (asked_address s r.asked)
taken_first s p i [] r is old new = absurd cc
taken_first s p i (x ∷ xs) r is old new = go (p x) is (λ k. taken_first s p i xs r k old.1 new)
  where
    go : (b : Bool) → cond b (Some x) (find p xs) ≡ Some r → (find p xs ≡ Some r → taken_of s (changed_first p (done_with (has_item i)) xs) ≡ map (λ a. taking (Some r.serial) a i) (asked_address s r.asked)) →
        taken_of s (cond b (done_with (has_item i) x ∷ xs) (x ∷ changed_first p (done_with (has_item i)) xs)) ≡ map (λ a. taking (Some r.serial) a i) (asked_address s r.asked)
    go true k later =
        let same : x ≡ r = cc in
        let here : completed_by s (done_with (has_item i) x) ≡ map (λ a. taking (Some r.serial) a i) (asked_address s r.asked) =
        subst (λ y. completed_by s (done_with (has_item i) y) ≡ map (λ a. taking (Some r.serial) a i) (asked_address s r.asked)) (sym same) (taken_now s r.serial r.asked i new) in
        ap (λ ts. completed_by s (done_with (has_item i) x) ++ ts) (none_taken s xs old.1) ∙ (append-nil (completed_by s (done_with (has_item i) x)) ∙ here)
    go false k later = ap (λ ts. ts ++ taken_of s (changed_first p (done_with (has_item i)) xs)) (old_takes_none s x old.0) ∙ later k

-- none waits, so nothing changes
first_same : (p : Request → Bool) (f : Request → Request) (rs : List Request) → find p rs ≡ None → changed_first p f rs ≡ rs
first_same p f [] is = refl
first_same p f (x ∷ xs) is = go (p x) is (λ k. first_same p f xs k)
  where
    go : (b : Bool) → cond b (Some x) (find p xs) ≡ None → (find p xs ≡ None → changed_first p f xs ≡ xs) → cond b (f x ∷ xs) (x ∷ changed_first p f xs) ≡ x ∷ xs
    go true k later = absurd cc
    go false k later = ap (λ ys. x ∷ ys) (later k)

-- what the oldest that waits at an endpoint takes
abbrev pub waiter_takes : DomainState → Item → Option Request → List Taking
waiter_takes s i None = []
waiter_takes s i (Some r) = map (λ a. taking (Some r.serial) a i) (asked_address s r.asked)

pub found_pends : (at : _) (rs : List Request) (r : Request) → find (waits_at at) rs ≡ Some r → waits_at at r ≡ true
found_pends at [] r is = absurd cc
found_pends at (x ∷ xs) r is = elim (cases_Bool (waits_at at x)) [
  | inl on ↦ let found : Some x ≡ Some r = sym (ap (λ (b : Bool). cond b (Some x) (find (waits_at at) xs)) on) ∙ is in let same : x ≡ r = cc in subst (λ y. waits_at at y ≡ true) same on
  | inr off ↦ found_pends at xs r (sym (ap (λ (b : Bool). cond b (Some x) (find (waits_at at) xs)) off) ∙ is)
]

pub handed_takes : (s : DomainState) (e : Endpoint) (i : Item) → Differ s.requests → taken_of s (handed_in (Some e) i s.requests) ≡ waiter_takes s i (oldest_waiting s e.local)
handed_takes s e i d = go (oldest_waiting s e.local) refl
  where
    go : (o : Option Request) → oldest_waiting s e.local ≡ o → taken_of s (changed_first (waits_at e.local) (done_with (has_item i)) s.requests) ≡ waiter_takes s i o
    go None is = ap (taken_of s) (first_same (waits_at e.local) (done_with (has_item i)) s.requests is) ∙ none_taken s s.requests (all_old s)
    go (Some r) is =
        let pends = and_parts (is_none r.outcome) (receives_at e.local r.asked) (found_pends e.local s.requests r is) in
        taken_first s (waits_at e.local) i s.requests r is (all_old s) (not_held s (waits_at e.local) r d is pends.0)

-- a request is given
taken_last : (s : DomainState) (rs : List Request) (r : Request) → taken_of s (rs ++ r ∷ []) ≡ taken_of s rs ++ completed_by s r
taken_last s [] r = append-nil (completed_by s r)
taken_last s (x ∷ xs) r = ap (λ ts. completed_by s x ++ ts) (taken_last s xs r) ∙ append_more (completed_by s x) (taken_of s xs) (completed_by s r)
  where
    append_more : (xs ys zs : List Taking) → xs ++ (ys ++ zs) ≡ (xs ++ ys) ++ zs
    append_more [] ys zs = refl
    append_more (x ∷ xs) ys zs = ap (λ ts. x ∷ ts) (append_more xs ys zs)

abbrev pub given_takes : DomainState → Asked → Option Outcome → List Taking
given_takes s asked (Some (has_item i)) = map (λ a. taking (Some s.requests_given) a i) (asked_address s asked)
given_takes s asked other = []

pub added_takes : (s : DomainState) (asked : Asked) (o : Option Outcome) → Below s.requests_given s.requests →
    taken_of s (s.requests ++ record { serial = s.requests_given; asked = asked; outcome = o } ∷ []) ≡ given_takes s asked o
added_takes s asked o below = taken_last s s.requests (record { serial = s.requests_given; asked = asked; outcome = o }) ∙ (ap (λ ts. ts ++ completed_by s (record { serial = s.requests_given; asked = asked; outcome = o })) (none_taken s s.requests (all_old s)) ∙ go o)
  where
    go : (o : Option Outcome) → completed_by s (record { serial = s.requests_given; asked = asked; outcome = o }) ≡ given_takes s asked o
    go None = old_takes_none s (record { serial = s.requests_given; asked = asked; outcome = None }) (inl refl)
    go (Some (has_item i)) = taken_now s s.requests_given asked i (new_not_held s below)
    go (Some (has_address a)) = old_takes_none s (record { serial = s.requests_given; asked = asked; outcome = Some (has_address a) }) (inl refl)
    go (Some is_accepted) = old_takes_none s (record { serial = s.requests_given; asked = asked; outcome = Some is_accepted }) (inl refl)
    go (Some (is_rejected w)) = old_takes_none s (record { serial = s.requests_given; asked = asked; outcome = Some (is_rejected w) }) (inl refl)
    go (Some (has_ended w)) = old_takes_none s (record { serial = s.requests_given; asked = asked; outcome = Some (has_ended w) }) (inl refl)

-- where one more takes nothing
pub old_last : (s : DomainState) (r : Request) → IsOld s r → (rs : List Request) → AllByRecursion (IsOld s) rs → AllByRecursion (IsOld s) (rs ++ r ∷ [])
old_last s r old [] all = (old, tt)
old_last s r old (x ∷ xs) all = (all.0, old_last s r old xs all.1)
