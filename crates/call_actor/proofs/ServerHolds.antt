-- What the server holds is what the messages that it received come to, with one message more.
use Rattle.std.proofs.Common.{◌≡◌, ◌≢◌, inl, inr, ℕ, zero, suc, ◌+◌, ◌<◌, ◌≤◌, Bool, true, false, cond, ltb, List, [], ◌∷◌, ◌++◌, Option, Some, None, slice_get, refl, sym, ap, ap₂, ◌∙◌, arith, eq-eqb}
use Rattle.std.specs.Prelude.{◌&&◌, ◌||◌, ◌==◌, bytes_eq, filter_map, slice_set, slice_index, slice_index_or, replicate}
use Rattle.std.specs.List.{AllByRecursion, cons_option, list_all, list_any}
use Rattle.std.proofs.lemmas.Bool.{and_parts, eqb-true, ltb-true, cases_Bool}
use Rattle.std.proofs.lemmas.List.Elements.{filter_map-append}
use Rattle.std.proofs.lemmas.List.Folds.{list_any-append}
use Rattle.mc_base.specs.Limits.{domain_limit}
use Rattle.call_service.specs.Bytes.{is_client}
use Rattle.call_service.specs.Handled.{Handled, handled}
use Rattle.call_service.specs.Served.{rising}
use Rattle.call_logs.specs.CallBytes.{bye_bytes, bye_in}
use Rattle.call_logs.specs.Roles.{handled_all, all_left}
use Rattle.call_logs.proofs.Requests.{handled-more}
use Rattle.call_actor.specs.declared.rules.ServerRole.{ServerRole}
use Rattle.call_actor.specs.ServerSteps.{Held, marked, with_message, have_left}
use Rattle.call_actor.specs.ServerStands.{Holds}
use Rattle.call_actor.proofs.Places.{length_more}

-- ---- flags

set_same : (xs : List Bool) (i : ℕ) (x y : Bool) → slice_get xs i ≡ Some x → slice_get (slice_set xs i y) i ≡ Some y
set_same [] i x y there = absurd cc
set_same (z ∷ xs) zero x y there = refl
set_same (z ∷ xs) (suc i) x y there = set_same xs i x y there

set_other : (xs : List Bool) (i j : ℕ) (y : Bool) → j ≢ i → slice_get (slice_set xs i y) j ≡ slice_get xs j
set_other [] i j y other = refl
set_other (z ∷ xs) zero zero y other = absurd (other refl)
set_other (z ∷ xs) zero (suc j) y other = refl
set_other (z ∷ xs) (suc i) zero y other = refl
set_other (z ∷ xs) (suc i) (suc j) y other = set_other xs i j y (omega arith)

flag_or : (xs : List Bool) (i : ℕ) (x : Bool) → slice_get xs i ≡ Some x → slice_index_or xs i false ≡ x
flag_or [] i x there = absurd cc
flag_or (z ∷ xs) zero x there = cc
flag_or (z ∷ xs) (suc i) x there = flag_or xs i x there

or_true : (b : Bool) → (b || true) ≡ true
or_true true = refl
or_true false = refl

or_false : (b : Bool) → (b || false) ≡ b
or_false true = refl
or_false false = refl

-- the client of a bye has a flag
bye_client : (m : List ℕ) (k : ℕ) → bye_in m ≡ Some k → k < 8
bye_client m k is = go (bytes_eq m (bye_bytes (slice_index m 1)) && is_client (slice_index m 1)) refl is
  where
    go : (b : Bool) → (bytes_eq m (bye_bytes (slice_index m 1)) && is_client (slice_index m 1)) ≡ b → cond b (Some (slice_index m 1)) None ≡ Some k → k < 8
    go false all given = absurd cc
    go true all given =
        let client = (and_parts (bytes_eq m (bye_bytes (slice_index m 1))) (is_client (slice_index m 1)) all).1 in
        let low : slice_index m 1 < domain_limit = ltb-true (slice_index m 1) domain_limit (and_parts (ltb 0 (slice_index m 1)) (ltb (slice_index m 1) domain_limit) client).1 in
        let same : slice_index m 1 ≡ k = cc in
        omega (arith, low, same)

-- ---- one message more

abbrev byes : List (List ℕ) → ℕ → Bool
byes ms d = list_any (λ k. k == d) (filter_map bye_in ms)

byes_more : (ms : List (List ℕ)) (m : List ℕ) (d : ℕ) → byes (ms ++ m ∷ []) d ≡ (byes ms d || list_any (λ k. k == d) (filter_map bye_in (m ∷ [])))
byes_more ms m d = ap (list_any (λ k. k == d)) (filter_map-append bye_in ms (m ∷ [])) ∙ list_any-append (λ k. k == d) (filter_map bye_in ms) (filter_map bye_in (m ∷ []))

marked_more : (left : List Bool) (ms : List (List ℕ)) (m : List ℕ) → ((d : ℕ) → d < 8 → slice_get left d ≡ Some (byes ms d)) → (d : ℕ) → d < 8 → slice_get (marked (bye_in m) left) d ≡ Some (byes (ms ++ m ∷ []) d)
marked_more left ms m flags d low = by_bye (bye_in m) refl
  where
    by_bye : (o : Option ℕ) → bye_in m ≡ o → slice_get (marked o left) d ≡ Some (byes (ms ++ m ∷ []) d)
    by_bye None is = flags d low ∙ ap Some (sym (byes_more ms m d ∙ ap (λ o. byes ms d || list_any (λ k. k == d) (cons_option o [])) is ∙ or_false (byes ms d)))
    by_bye (Some k) is = elim (cases_Bool (k == d)) [
      | inl same ↦
          let own : d ≡ k = sym (eqb-true k d same) in
          ap (slice_get (slice_set left k true)) own
          ∙ set_same left k (byes ms k) true (flags k (bye_client m k is))
          ∙ ap Some (sym (byes_more ms m d ∙ ap (λ o. byes ms d || list_any (λ k. k == d) (cons_option o [])) is ∙ ap (λ b. byes ms d || (b || false)) same ∙ or_true (byes ms d)))
      | inr other ↦
          set_other left k d true (λ is_k. let t = eq-eqb k d (sym is_k) in cc)
          ∙ flags d low
          ∙ ap Some (sym (byes_more ms m d ∙ ap (λ o. byes ms d || list_any (λ k. k == d) (cons_option o [])) is ∙ ap (λ b. byes ms d || (b || false)) other ∙ or_false (byes ms d)))
    ]

module _ (c : ServerRole) (held : Held) (ms : List (List ℕ)) (holds : Holds c held ms) (m : List ℕ) where
  pub now_is : handled_all c.calls (ms ++ m ∷ []) ≡ handled held.service m held.reply
  now_is = handled-more (handled_all c.calls []) ms m ∙ ap₂ (λ s r. handled s m r) (sym holds.service) (sym holds.reply)

  abbrev pub after : Held
  after = with_message held (handled held.service m held.reply) m

  pub holds_more : Holds c after (ms ++ m ∷ [])
  holds_more = record {
    service = ap (λ (h : Handled). h.service) (sym now_is);
    reply = ap (λ (h : Handled). h.reply) (sym now_is);
    received = ap (λ n. n + 1) holds.received ∙ sym (length_more ms m ∙ omega arith);
    left = marked_more held.left ms m holds.left;
  }

pub holds_none : (c : ServerRole) (held : Held) → held.service ≡ (handled_all c.calls []).service → held.reply ≡ replicate 16 0 → held.received ≡ 0 → held.left ≡ replicate 8 false → Holds c held []
holds_none c held service reply received left = record { service = service; reply = reply; received = received; left = λ d low. ap (λ xs. slice_get xs d) left ∙ all_false 8 d low }
  where
    all_false : (n d : ℕ) → d < n → slice_get (replicate n false) d ≡ Some false
    all_false zero d low = absurd (omega (arith, low))
    all_false (suc n) zero low = refl
    all_false (suc n) (suc d) low = all_false n d (omega (arith, low))

-- ---- the byes of all clients

all_tests : (p q : ℕ → Bool) (xs : List ℕ) → AllByRecursion (λ x. p x ≡ q x) xs → list_all p xs ≡ list_all q xs
all_tests p q [] all = refl
all_tests p q (x ∷ xs) all = ap₂ (λ a b. a && b) all.0 (all_tests p q xs all.1)

rising_all : (P : ℕ → Type 0) (hi from n : ℕ) → from + n ≤ hi → ((d : ℕ) → d < hi → P d) → AllByRecursion P (rising from n)
rising_all P hi from zero le each = tt
rising_all P hi from (suc n) le each = (each from (omega (arith, le)), rising_all P hi (from + 1) n (omega (arith, le)) each)

pub left_all : (c : ServerRole) (held : Held) (ms : List (List ℕ)) → Holds c held ms → c.clients < 8 → have_left c.clients held.left ≡ all_left c.clients ms
left_all c held ms holds few =
    all_tests (λ d. slice_index_or held.left d false) (byes ms) (rising 1 c.clients)
    (rising_all (λ d. slice_index_or held.left d false ≡ byes ms d) 8 1 c.clients (omega (arith, few)) (λ d low. flag_or held.left d (byes ms d) (holds.left d low)))
