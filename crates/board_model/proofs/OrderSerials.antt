-- The serials of the requests of a domain differ, and are below the number of requests given.
use Rattle.std.proofs.Common.{◌≡◌, ℕ, zero, suc, ◌+◌, ◌-◌, ◌%◌, ◌≤◌, ◌<◌, ◌^◌, Bool, true, false, cond, List, [], ◌∷◌, ◌++◌, map, Option, Some, None, refl, sym, ap, ◌∙◌, subst, arith}
use Rattle.std.specs.Prelude.{◌==◌, ◌&&◌, is_none}
use Rattle.std.specs.List.{AllByRecursion}
use Rattle.std.proofs.lemmas.Bool.{ne_eqb}
use Rattle.std.proofs.Math.Nat.{mod-eq_of_lt}
use Rattle.board_model.specs.Lists.{changed_first, without, without_at}
use Rattle.board_model.specs.Deeds.{Deed, calls}
use Rattle.board_model.specs.Journal.{refuses}
use Rattle.board_model.specs.State.{Item, Endpoint, Asked, Outcome, has_address, has_item, has_ended, Request, DomainState, endpoint_of, waits_at}
use Rattle.board_model.specs.Change.{Change, request_added, item_handed, waiting_ended, name_found, connect_settled, request_gone, done_with, all_done, handed_in, ended_in, asks_for, connects_on, changed, changed_all}

-- another serial
abbrev pub IsOther : ℕ → Request → Type 0
IsOther k r = (r.serial == k) ≡ false

abbrev pub Differ : List Request → Type 0
Differ [] = Unit {0}
Differ (r ∷ rs) = AllByRecursion (IsOther r.serial) rs × Differ rs

abbrev pub Below : ℕ → List Request → Type 0
Below n rs = AllByRecursion (λ r. r.serial < n) rs

-- where so many may still be given
pub record Serials (room : ℕ) (s : DomainState) : Type 0 where
  pub differ : Differ s.requests
  pub below : Below s.requests_given s.requests
  pub small : s.requests_given + room < 2 ^ 64

-- ---- requests that keep their serials

module _ (f : Request → Request) (same : (r : Request) → (f r).serial ≡ r.serial) where
  other_mapped : (k : ℕ) (rs : List Request) → AllByRecursion (IsOther k) rs → AllByRecursion (IsOther k) (map f rs)
  other_mapped k [] all = tt
  other_mapped k (r ∷ rs) all = (ap (λ n. n == k) (same r) ∙ all.0, other_mapped k rs all.1)

  differ_mapped : (rs : List Request) → Differ rs → Differ (map f rs)
  differ_mapped [] d = tt
  differ_mapped (r ∷ rs) d = (subst (λ k. AllByRecursion (IsOther k) (map f rs)) (sym (same r)) (other_mapped r.serial rs d.0), differ_mapped rs d.1)

  below_mapped : (n : ℕ) (rs : List Request) → Below n rs → Below n (map f rs)
  below_mapped n [] all = tt
  below_mapped n (r ∷ rs) all = (subst (λ k. k < n) (sym (same r)) all.0, below_mapped n rs all.1)

  other_first : (p : Request → Bool) (k : ℕ) (rs : List Request) → AllByRecursion (IsOther k) rs → AllByRecursion (IsOther k) (changed_first p f rs)
  other_first p k [] all = tt
  other_first p k (r ∷ rs) all = go (p r) (other_first p k rs all.1)
    where
      go : (b : Bool) → AllByRecursion (IsOther k) (changed_first p f rs) → AllByRecursion (IsOther k) (cond b (f r ∷ rs) (r ∷ changed_first p f rs))
      go true more = (ap (λ n. n == k) (same r) ∙ all.0, all.1)
      go false more = (all.0, more)

  differ_first : (p : Request → Bool) (rs : List Request) → Differ rs → Differ (changed_first p f rs)
  differ_first p [] d = tt
  differ_first p (r ∷ rs) d = go (p r) (differ_first p rs d.1)
    where
      go : (b : Bool) → Differ (changed_first p f rs) → Differ (cond b (f r ∷ rs) (r ∷ changed_first p f rs))
      go true more = (subst (λ k. AllByRecursion (IsOther k) rs) (sym (same r)) d.0, d.1)
      go false more = (other_first p r.serial rs d.0, more)

  below_first : (p : Request → Bool) (n : ℕ) (rs : List Request) → Below n rs → Below n (changed_first p f rs)
  below_first p n [] all = tt
  below_first p n (r ∷ rs) all = go (p r) (below_first p n rs all.1)
    where
      go : (b : Bool) → Below n (changed_first p f rs) → Below n (cond b (f r ∷ rs) (r ∷ changed_first p f rs))
      go true more = (subst (λ k. k < n) (sym (same r)) all.0, all.1)
      go false more = (all.0, more)

-- ---- requests that are gone

pub all_without : (P : Request → Type 0) (place : Option ℕ) (rs : List Request) → AllByRecursion P rs → AllByRecursion P (without place rs)
all_without P None rs all = all
all_without P (Some i) rs all = go i rs all
  where
    go : (i : ℕ) (rs : List Request) → AllByRecursion P rs → AllByRecursion P (without_at i rs)
    go i [] all = tt
    go zero (r ∷ rs) all = all.1
    go (suc i) (r ∷ rs) all = (all.0, go i rs all.1)

differ_without : (place : Option ℕ) (rs : List Request) → Differ rs → Differ (without place rs)
differ_without None rs d = d
differ_without (Some i) rs d = go i rs d
  where
    go : (i : ℕ) (rs : List Request) → Differ rs → Differ (without_at i rs)
    go i [] d = tt
    go zero (r ∷ rs) d = d.1
    go (suc i) (r ∷ rs) d = (all_without (IsOther r.serial) (Some i) rs d.0, go i rs d.1)

-- ---- a request that is new

other_above : (n : ℕ) (rs : List Request) → Below n rs → AllByRecursion (λ r. (n == r.serial) ≡ false) rs
other_above n [] all = tt
other_above n (r ∷ rs) all = (let low : r.serial < n = all.0 in ne_eqb n r.serial (λ same. absurd (omega arith)), other_above n rs all.1)

pub all_last : (P : Request → Type 0) (rs : List Request) (r : Request) → AllByRecursion P rs → P r → AllByRecursion P (rs ++ r ∷ [])
all_last P [] r all here = (here, tt)
all_last P (x ∷ rs) r all here = (all.0, all_last P rs r all.1 here)

differ_last : (rs : List Request) (r : Request) → Differ rs → AllByRecursion (λ x. (r.serial == x.serial) ≡ false) rs → Differ (rs ++ r ∷ [])
differ_last [] r d other = (tt, tt)
differ_last (x ∷ rs) r d other = (all_last (IsOther x.serial) rs r d.0 other.0, differ_last rs r d.1 other.1)

below_more : (n m : ℕ) → n ≤ m → (rs : List Request) → Below n rs → Below m rs
below_more n m le [] all = tt
below_more n m le (r ∷ rs) all = (let low : r.serial < n = all.0 in omega arith, below_more n m le rs all.1)

-- ---- changes

handed_serials : (n : ℕ) (e : Option Endpoint) (i : Item) (rs : List Request) → Differ rs → Below n rs → Differ (handed_in e i rs) × Below n (handed_in e i rs)
handed_serials n None i rs d b = (d, b)
handed_serials n (Some e) i rs d b = (differ_first (done_with (has_item i)) (λ r. refl) (waits_at e.local) rs d, below_first (done_with (has_item i)) (λ r. refl) (waits_at e.local) n rs b)

done_same : (b : Bool) (o : Outcome) (r : Request) → (cond b (done_with o r) r).serial ≡ r.serial
done_same true o r = refl
done_same false o r = refl

ended_serials : (n : ℕ) (e : Option Endpoint) (w : _) (rs : List Request) → Differ rs → Below n rs → Differ (ended_in e w rs) × Below n (ended_in e w rs)
ended_serials n None w rs d b = (d, b)
ended_serials n (Some e) w rs d b =
    let f : Request → Request = λ r. cond (waits_at e.local r) (done_with (has_ended w) r) r in
    let same : (r : Request) → (f r).serial ≡ r.serial = λ r. done_same (waits_at e.local r) (has_ended w) r in
    (differ_mapped f same rs d, below_mapped f same n rs b)

done_serials : (n : ℕ) (asks : Asked → Bool) (o : Outcome) (rs : List Request) → Differ rs → Below n rs → Differ (map (all_done asks o) rs) × Below n (map (all_done asks o) rs)
done_serials n asks o rs d b =
    let f : Request → Request = all_done asks o in
    let same : (r : Request) → (f r).serial ≡ r.serial = λ r. done_same (is_none r.outcome && asks r.asked) o r in
    (differ_mapped f same rs d, below_mapped f same n rs b)

-- how many requests a change gives
abbrev pub given_by : Change → ℕ
given_by (request_added asked o) = 1
given_by other = 0

abbrev pub given_by_all : List Change → ℕ
given_by_all [] = 0
given_by_all (c ∷ cs) = given_by c + given_by_all cs

-- a call that is not refused
abbrev pub succeeds : Deed → ℕ
succeeds (calls node call (refuses w)) = 0
succeeds (calls node call a) = 1
succeeds other = 0

-- how many calls of a run are not refused
abbrev pub all_succeed : List Deed → ℕ
all_succeed [] = 0
all_succeed (d ∷ ds) = succeeds d + all_succeed ds

pub serials_change : (room : ℕ) (s : DomainState) (c : Change) → given_by c ≤ room → Serials room s → Serials (room - given_by c) (changed s c)
serials_change room s (request_added asked o) fits serials =
    let next : (s.requests_given + 1) % 2 ^ 64 ≡ s.requests_given + 1 = mod-eq_of_lt (omega (arith, serials.small)) in
    let new : Request = record { serial = s.requests_given; asked = asked; outcome = o } in
    record {
      differ = differ_last s.requests new serials.differ (other_above s.requests_given s.requests serials.below);
      below = subst (λ n. Below n (s.requests ++ new ∷ [])) (sym next) (all_last (λ r. r.serial < s.requests_given + 1) s.requests new (below_more s.requests_given (s.requests_given + 1) (omega arith) s.requests serials.below) (omega arith));
      small = omega (arith, next, serials.small, fits);
    }
serials_change room s (item_handed a i) fits serials = let k = handed_serials s.requests_given (endpoint_of s a) i s.requests serials.differ serials.below in record { differ = k.0; below = k.1; small = omega (arith, serials.small) }
serials_change room s (waiting_ended a w) fits serials = let k = ended_serials s.requests_given (endpoint_of s a) w s.requests serials.differ serials.below in record { differ = k.0; below = k.1; small = omega (arith, serials.small) }
serials_change room s (name_found n a) fits serials = let k = done_serials s.requests_given (asks_for n) (has_address a) s.requests serials.differ serials.below in record { differ = k.0; below = k.1; small = omega (arith, serials.small) }
serials_change room s (connect_settled n o) fits serials = let k = done_serials s.requests_given (connects_on n) o s.requests serials.differ serials.below in record { differ = k.0; below = k.1; small = omega (arith, serials.small) }
serials_change room s (request_gone p) fits serials = record { differ = differ_without p s.requests serials.differ; below = all_without (λ r. r.serial < s.requests_given) p s.requests serials.below; small = omega (arith, serials.small) }
serials_change room s other fits serials = record { differ = serials.differ; below = serials.below; small = omega (arith, serials.small) }

pub serials_changes : (room : ℕ) (s : DomainState) (cs : List Change) → given_by_all cs ≤ room → Serials room s → Serials (room - given_by_all cs) (changed_all s cs)
serials_changes room s [] fits serials = record { differ = serials.differ; below = serials.below; small = omega (arith, serials.small) }
serials_changes room s (c ∷ cs) fits serials =
    let next = serials_changes (room - given_by c) (changed s c) cs (omega arith) (serials_change room s c (omega arith) serials) in
    let left : room - given_by c - given_by_all cs ≡ room - given_by_all (c ∷ cs) = omega arith in
    subst (λ k. Serials k (changed_all s (c ∷ cs))) left next
