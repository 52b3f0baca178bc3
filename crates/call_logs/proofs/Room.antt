-- A history grows only, and a service that never lacks room holds the history of all requests. Calls of each client that are no more than those
-- of a list are no more than that list.
use Rattle.std.proofs.Common.{◌≡◌, ℕ, zero, suc, ◌+◌, ◌<◌, ◌≤◌, Bool, true, false, cond, ltb, List, [], ◌∷◌, ◌++◌, length, Option, None, Some, refl, sym, ap, ◌∙◌, arith, length-append, eq-eqb}
use Rattle.std.specs.Prelude.{◌==◌, nat_le, Result, Ok, Err, count_by}
use Rattle.std.specs.List.{AllByRecursion, cons_option}
use Rattle.std.proofs.lemmas.Bool.{and_parts, leb-true, ltb-true, ltb-false, lt-ltb, eqb-true}
use Rattle.std.proofs.lemmas.List.Sums.{count_by-le-length}
use Rattle.board_model.proofs.ListsCounts.{one_if, count-cons}
use Rattle.call_service.specs.declared.carried.Carried.{Carried}
use Rattle.call_service.specs.declared.request.Request.{Request}
use Rattle.call_service.specs.declared.request.ServiceFault.{ServiceFault}
use Rattle.call_service.specs.declared.request.ServiceFault.TheVariants.{Full}
use Rattle.call_service.specs.Bytes.{request_in}
use Rattle.call_service.specs.Served.{carried_out, is_next, served, history_from}
use Rattle.call_service.specs.Handled.{State, Handled, handled, handled_request, is_full, refused, replied}
use Rattle.call_service.proofs.Histories.{after_any}
use Rattle.call_service.proofs.Repeats.{carries_out}
use Rattle.call_logs.specs.Roles.{handled_from, request_or_none, requests_in}

-- ---- histories grow

pub kept_after : (P : List Carried → Type 0) → ((h : List Carried) (e : Carried) → P h → P (h ++ e ∷ [])) → (h : List Carried) (rs : List Request) → P h → P (history_from h rs)
kept_after P more h [] p = p
kept_after P more h (r ∷ rs) p = kept_after P more (served h r).history rs (after_any P h r p (λ new next. more h (carried_out h r) p))

pub history_grows : (h : List Carried) (rs : List Request) → length h ≤ length (history_from h rs)
history_grows h rs = kept_after (λ x. length h ≤ length x) (λ x e le. omega (arith, length-append x (e ∷ []), le)) h rs (omega arith)

-- ---- a service with room

-- one message more
module _ (s : State) (old : List ℕ) where
  grown_full : (r : Request) → is_full s r ≡ true → length (served s.history r).history ≤ s.room → ⊥
  grown_full r full le =
      let parts = and_parts (is_next s.history r) (nat_le s.room (length s.history)) full in
      let low = leb-true s.room (length s.history) parts.1 in
      let long = ap (λ x. length x.history) (carries_out s.history r parts.0) in
      omega (arith, low, le, long, length-append s.history (carried_out s.history r ∷ []))

  one_more : (o : Result Request ServiceFault) → length (history_from s.history (cons_option (request_or_none o) [])) ≤ s.room → (handled_request s old o).service ≡ record s { history = history_from s.history (cons_option (request_or_none o) []) }
  one_more (Err fault) le = refl
  one_more (Ok r) le = by_room (is_full s r) refl
    where
      by_room : (b : Bool) → is_full s r ≡ b → (cond b (refused Full s old) (replied s r)).service ≡ record s { history = (served s.history r).history }
      by_room true full = absurd (grown_full r full le)
      by_room false room = refl

then_later : (h : List Carried) (o : Option Request) (rs : List Request) → history_from h (cons_option o rs) ≡ history_from (history_from h (cons_option o [])) rs
then_later h None rs = refl
then_later h (Some r) rs = refl

pub has_room : (h : Handled) (ms : List (List ℕ)) → length (history_from h.service.history (requests_in ms)) ≤ h.service.room → (handled_from h ms).service.history ≡ history_from h.service.history (requests_in ms)
has_room h [] fits = refl
has_room h (m ∷ ms) fits =
    let first : List Request = cons_option (request_or_none (request_in m)) [] in
    let next = handled h.service m h.reply in
    let parts = then_later h.service.history (request_or_none (request_in m)) (requests_in ms) in
    let grows = history_grows (history_from h.service.history first) (requests_in ms) in
    let stepped : next.service ≡ record h.service { history = history_from h.service.history first } = one_more h.service h.reply (request_in m) (omega (arith, grows, fits, ap length parts)) in
    let room : next.service.room ≡ h.service.room = ap (λ s. s.room) stepped in
    let same : history_from next.service.history (requests_in ms) ≡ history_from h.service.history (requests_in (m ∷ ms)) = ap (λ s. history_from s.history (requests_in ms)) stepped ∙ sym parts in
    has_room next ms (omega (arith, fits, room, ap length same)) ∙ same

-- ---- lists by keys

split_one : (k n : ℕ) → one_if (ltb k (suc n)) ≡ one_if (ltb k n) + one_if (k == n)
split_one k n = grind (arith, ltb-true, ltb-false, eqb-true, eq-eqb)

none_below : (k : ℕ) → one_if (ltb k 0) ≡ 0
none_below k = grind (arith, ltb-true)

module _ {A B : Type 0} (key : A → ℕ) (other : B → ℕ) (xs : List A) (ys : List B) (fewer : (c : ℕ) → count_by (λ x. key x == c) xs ≤ count_by (λ y. other y == c) ys) where
  under_next : {C : Type 0} (at : C → ℕ) (n : ℕ) (zs : List C) → count_by (λ z. ltb (at z) (suc n)) zs ≡ count_by (λ z. ltb (at z) n) zs + count_by (λ z. at z == n) zs
  under_next at n [] = refl
  under_next at n (z ∷ zs) =
      omega (arith, under_next at n zs, split_one (at z) n, count-cons (λ x. ltb (at x) (suc n)) z zs, count-cons (λ x. ltb (at x) n) z zs, count-cons (λ x. at x == n) z zs)

  under_none : {C : Type 0} (at : C → ℕ) (zs : List C) → count_by (λ z. ltb (at z) 0) zs ≡ 0
  under_none at [] = refl
  under_none at (z ∷ zs) = omega (arith, none_below (at z), under_none at zs, count-cons (λ x. ltb (at x) 0) z zs)

  fewer_under : (n : ℕ) → count_by (λ x. ltb (key x) n) xs ≤ count_by (λ y. ltb (other y) n) ys
  fewer_under zero = omega (arith, under_none key xs)
  fewer_under (suc n) = omega (arith, fewer_under n, fewer n, under_next key n xs, under_next other n ys)

  all_under : (n : ℕ) (zs : List A) → AllByRecursion (λ x. key x < n) zs → count_by (λ x. ltb (key x) n) zs ≡ length zs
  all_under n [] all = refl
  all_under n (z ∷ zs) all = omega (arith, count-cons (λ x. ltb (key x) n) z zs, ap one_if (lt-ltb (key z) n all.0), all_under n zs all.1)

  -- where all keys are below a number, the first list is no longer than the second
  pub no_longer : (n : ℕ) → AllByRecursion (λ x. key x < n) xs → length xs ≤ length ys
  no_longer n all = omega (arith, all_under n xs all, fewer_under n, count_by-le-length (λ y. ltb (other y) n) ys)
