-- What holds of requests holds of the calls that are carried out of them.
use Rattle.std.proofs.Common.{◌≡◌, ℕ, zero, suc, ◌+◌, ◌^◌, nat_lt, Bool, true, false, cond, List, [], ◌∷◌, map, filter, drop, slice_get, Some, refl, sym, ap, ◌∙◌, arith}
use Rattle.std.specs.Prelude.{Result, Ok, Err}
use Rattle.std.specs.List.{AllByRecursion, cons_option}
use Rattle.std.proofs.lemmas.Bool.{cond_both}
use Rattle.board_model.specs.Lists.{IsPrefix}
use Rattle.board_model.proofs.MessageAlls.{all-append}
use Rattle.call_service.specs.declared.carried.Carried.{Carried}
use Rattle.call_service.specs.declared.request.Request.{Request}
use Rattle.call_service.specs.declared.request.ServiceFault.{ServiceFault}
use Rattle.call_service.specs.Bytes.{request_in}
use Rattle.call_service.specs.Served.{call_made, carried_out, served, history_from, value}
use Rattle.call_service.proofs.Histories.{after_any}
use Rattle.call_service.proofs.Numbers.{RiseFrom, first_is, rest_rises}
use Rattle.call_logs.specs.Roles.{request_or_none, requests_in}

-- ---- requests among messages

pub all_requests : (P : List ℕ → Type 0) (Q : Request → Type 0) → ((m : List ℕ) (r : Request) → P m → request_in m ≡ Ok r → Q r) → (ms : List (List ℕ)) → AllByRecursion P ms → AllByRecursion Q (requests_in ms)
all_requests P Q one [] all = tt
all_requests P Q one (m ∷ ms) all = go (request_in m) refl (all_requests P Q one ms all.1)
  where
    go : (o : Result Request ServiceFault) → request_in m ≡ o → AllByRecursion Q (requests_in ms) → AllByRecursion Q (cons_option (request_or_none o) (requests_in ms))
    go (Err fault) read later = later
    go (Ok r) read later = (one m r all.0 read, later)

-- ---- histories

pub all_made : (P : Carried → Type 0) (h : List Carried) (r : Request) → ((over : _) (v : ℕ) → P (call_made r over v)) → P (carried_out h r)
all_made P h r each = cond_both (nat_lt (value h r.cell + r.amount) (2 ^ 64)) (call_made r false (value h r.cell + r.amount)) (call_made r true (value h r.cell)) P (λ fits. each false (value h r.cell + r.amount)) (λ over. each true (value h r.cell))

pub all_carried : (P : Carried → Type 0) (Q : Request → Type 0) → ((r : Request) (over : _) (v : ℕ) → Q r → P (call_made r over v)) → (h : List Carried) (rs : List Request) → AllByRecursion P h → AllByRecursion Q rs → AllByRecursion P (history_from h rs)
all_carried P Q one h [] all qs = all
all_carried P Q one h (r ∷ rs) all qs =
    all_carried P Q one (served h r).history rs
    (after_any (AllByRecursion P) h r all (λ new next. all-append P h (carried_out h r ∷ []) all (all_made P h r (λ over v. one r over v qs.0), tt))) qs.1

-- ---- calls in the order of their numbers

pub all_kept : {A : Type 0} (P : A → Type 0) (test : A → Bool) (xs : List A) → AllByRecursion P xs → AllByRecursion (λ x. P x × (test x ≡ true)) (filter test xs)
all_kept P test [] all = tt
all_kept {A} P test (x ∷ xs) all = go (test x) refl (all_kept P test xs all.1)
  where
    go : (b : Bool) → test x ≡ b → AllByRecursion (λ y. P y × (test y ≡ true)) (filter test xs) → AllByRecursion (λ y. P y × (test y ≡ true)) (cond b (x ∷ filter test xs) (filter test xs))
    go true is later = ((all.0, is), later)
    go false is later = later

pub drop_there : {A : Type 0} (xs : List A) (n : ℕ) (x : A) → slice_get xs n ≡ Some x → drop n xs ≡ x ∷ drop (n + 1) xs
drop_there [] n x there = absurd cc
drop_there (y ∷ ys) zero x there = let same : y ≡ x = cc in rw same refl
drop_there (y ∷ ys) (suc n) x there = let next : suc (n + 1) ≡ suc n + 1 = omega arith in drop_there ys n x there ∙ ap (λ k. x ∷ drop k (y ∷ ys)) next

-- the place of a call in a list of calls: its number is one more
pub record IsCallOf (calls : List (ℕ × ℕ)) (number cell amount : ℕ) : Type 0 where
  pub place : ℕ
  pub at : slice_get calls place ≡ Some (cell, amount)
  pub number_is : number ≡ place + 1

pub calls_first : (calls : List (ℕ × ℕ)) (from : ℕ) (es : List Carried) → RiseFrom (from + 1) es → AllByRecursion (λ e. IsCallOf calls e.number e.cell e.amount) es → IsPrefix (map (λ e. (e.cell, e.amount)) es) (drop from calls)
calls_first calls from [] rises all = (drop from calls, refl)
calls_first calls from (e ∷ es) rises all =
    let first = first_is (from + 1) e es rises in
    let place : all.0.place ≡ from = omega (arith, first, all.0.number_is) in
    let here : slice_get calls from ≡ Some (e.cell, e.amount) = ap (slice_get calls) (sym place) ∙ all.0.at in
    let later = calls_first calls (from + 1) es (rest_rises (from + 1) e es rises) all.1 in
    (later.0, drop_there calls from (e.cell, e.amount) here ∙ ap (λ ks. (e.cell, e.amount) ∷ ks) later.1)
