-- The fields of a set of requests, before and after a call.
use Rattle.mc_base.specs.declared.name.Local.{Local}
use Rattle.std.proofs.Common.{zero, suc, get_or, set, count_by, is_some, cond, Bool, true, false, ◌&&◌, find, is_none, option_map, IfSome, ◌≡◌, ℕ, ◌+◌, ◌<◌, List, [], ◌∷◌, ◌++◌, length, Option, Some, None, IsSome, inl, inr, refl, sym, ap, subst, ◌∙◌, arith, length-append}
use Rattle.std.proofs.lemmas.Bool.{cases_eq}
use Rattle.slab.specs.Slab.{Slab, get, slab_len, Updates, with_value}
use Rattle.std.proofs.lemmas.List.Sums.{sum_by-cons}
use Rattle.mc_base.specs.declared.request.RequestId.{RequestId}
use Rattle.request_set.specs.declared.set.Request.{Request}
use Rattle.request_set.specs.declared.set.RequestSet.TheInside.{Inside}
use Rattle.request_set.specs.Requests.{Standing, request_of, waits_at, receives_at, oldest_waiting, IsPending}
use Rattle.request_set.specs.InSet.{requests_of, KeepsOrder, Among}
use Rattle.request_set.proofs.Keys.{without, All-push, All-weaker, Differ-push, Among-push, Among-before, Differ-without, Among-without, All-without, without-others}
use Rattle.request_set.proofs.Standings.{by_serial, find-kept, found-kept, vacant-others, occupied-without, length-standing, found-by-id}

-- a look-up by key and serial
pub looked : (s : Inside) (id : RequestId) → KeepsOrder s → request_of (requests_of s) id ≡ by_serial id (get s.slab id.key)
looked s id keeps = find-kept (get s.slab) id s.order.items (keeps.ordered id.key)

-- what is kept of a request that stands
pub stands : (s : Inside) (id : RequestId) → KeepsOrder s → IsSome (request_of (requests_of s) id) → (r : Request) × (get s.slab id.key ≡ Some r) × (r.serial ≡ id.serial)
stands s id keeps some = found-kept id (get s.slab id.key) (subst (λ o. IsSome o) (looked s id keeps) some)

some-pending : (o : Option Standing) → option_map (λ r. is_none r.complete) o ≡ Some true → IsSome o
some-pending None e = absurd cc
some-pending (Some r) e = refl

-- what is kept of a pending request
pub stands-pending : (s : Inside) (id : RequestId) → KeepsOrder s → IsPending (requests_of s) id → (r : Request) × (get s.slab id.key ≡ Some r) × (r.serial ≡ id.serial)
stands-pending s id keeps pending = stands s id keeps (some-pending (request_of (requests_of s) id) pending)

pub length-kept : (s : Inside) → KeepsOrder s → length (requests_of s).standing ≡ length s.order.items
length-kept s keeps = length-standing (get s.slab) s.order.items keeps.occupied

-- ---- one more

pub KeepsOrder-push : (s t : Inside) (key : ℕ) (r : Request) → KeepsOrder s → length s.order.items < 64 → get s.slab key ≡ None → Updates s.slab t.slab key (Some r) → slab_len t.slab ≡ slab_len s.slab + 1 → t.slab.capacity ≡ s.slab.capacity → t.order.items ≡ s.order.items ++ key ∷ [] → KeepsOrder t
KeepsOrder-push s t key r keeps room vacant updates len capacity pushed =
    let apart = vacant-others (get s.slab) key s.order.items keeps.occupied vacant in
    let here : IsSome (get t.slab key) = rw updates.changed refl in
    record {
      occupied = rw pushed (All-push (λ k. IsSome (get t.slab k)) s.order.items key (occupied-without (get s.slab) (get t.slab) key s.order.items keeps.occupied updates.others apart) here);
      ordered = λ k some. rw pushed (elim (cases_eq k key) [
        | inl same ↦ subst (λ j. Among j (s.order.items ++ key ∷ [])) (sym same) (Among-push s.order.items key)
        | inr differs ↦ Among-before s.order.items key k (keeps.ordered k (subst (λ o. IsSome o) (updates.others k differs) some))
      ]);
      differ = rw pushed (Differ-push s.order.items key keeps.differ apart);
      counted = omega (arith, keeps.counted, len, ap length pushed, length-append s.order.items (key ∷ []));
      few = omega (arith, room, ap length pushed, length-append s.order.items (key ∷ []));
      room = omega (arith, keeps.room, capacity);
      keys_fit = omega (arith, keeps.keys_fit, capacity);
    }

-- ---- one less

pub KeepsOrder-without : (s t : Inside) (key : ℕ) → KeepsOrder s → Updates s.slab t.slab key None → slab_len t.slab + 1 ≡ slab_len s.slab → t.slab.capacity ≡ s.slab.capacity → t.order.items ≡ without key s.order.items → length t.order.items + 1 ≡ length s.order.items → KeepsOrder t
KeepsOrder-without s t key keeps updates len capacity left less =
    record {
      occupied = rw left (occupied-without (get s.slab) (get t.slab) key (without key s.order.items) (All-without (λ k. IsSome (get s.slab k)) key s.order.items keeps.occupied) updates.others (without-others key s.order.items));
      ordered = λ k some. rw left (elim (cases_eq k key) [
        | inl same ↦ absurd (cc (ap (get t.slab) same ∙ updates.changed, some))
        | inr differs ↦ Among-without key k s.order.items differs (keeps.ordered k (subst (λ o. IsSome o) (updates.others k differs) some))
      ]);
      differ = rw left (Differ-without key s.order.items keeps.differ);
      counted = omega (arith, keeps.counted, len, less);
      few = omega (arith, keeps.few, less);
      room = omega (arith, keeps.room, capacity);
      keys_fit = omega (arith, keeps.keys_fit, capacity);
    }

-- ---- one changed

-- another value under a key that has one
len-set : (slots : List (Option Request)) (key : ℕ) (r : Request) → IsSome (get_or slots key None) → count_by is_some (set slots key (Some r)) ≡ count_by is_some slots
len-set [] key r some = absurd cc
len-set (x ∷ xs) zero r some =
    sum_by-cons (λ o. cond (is_some o) 1 0) (Some r) xs ∙ sym (sum_by-cons (λ o. cond (is_some o) 1 0) x xs ∙ rw some refl)
len-set (x ∷ xs) (suc key) r some =
    sum_by-cons (λ o. cond (is_some o) 1 0) x (set xs key (Some r)) ∙ rw (len-set xs key r some) refl ∙ sym (sum_by-cons (λ o. cond (is_some o) 1 0) x xs)

pub len-with_value : (slab : Slab Request) (key : ℕ) (r : Request) → IsSome (get slab key) → slab_len (with_value slab key r) ≡ slab_len slab
len-with_value slab key r some = len-set slab.slots key r some

pub KeepsOrder-changed : (s t : Inside) (key : ℕ) (r r' : Request) → KeepsOrder s → get s.slab key ≡ Some r → Updates s.slab t.slab key (Some r') → slab_len t.slab ≡ slab_len s.slab → t.slab.capacity ≡ s.slab.capacity → t.order.items ≡ s.order.items → KeepsOrder t
KeepsOrder-changed s t key r r' keeps was updates len capacity same_order =
    let stays : (k : ℕ) → IsSome (get s.slab k) → IsSome (get t.slab k) = λ k some. elim (cases_eq k key) [
      | inl same ↦ rw (ap (get t.slab) same ∙ updates.changed) refl
      | inr differs ↦ subst (λ o. IsSome o) (sym (updates.others k differs)) some
    ] in
    let back : (k : ℕ) → IsSome (get t.slab k) → IsSome (get s.slab k) = λ k some. elim (cases_eq k key) [
      | inl same ↦ rw (ap (get s.slab) same ∙ was) refl
      | inr differs ↦ subst (λ o. IsSome o) (updates.others k differs) some
    ] in
    record {
      occupied = rw same_order (All-weaker (λ k. IsSome (get s.slab k)) (λ k. IsSome (get t.slab k)) stays s.order.items keeps.occupied);
      ordered = λ k some. rw same_order (keeps.ordered k (back k some));
      differ = rw same_order keeps.differ;
      counted = omega (arith, keeps.counted, len, ap length same_order);
      few = omega (arith, keeps.few, ap length same_order);
      room = omega (arith, keeps.room, capacity);
      keys_fit = omega (arith, keeps.keys_fit, capacity);
    }

-- ---- receives that wait

both-true : (a b : Bool) → (a && b) ≡ true → a ≡ true
both-true true b e = refl
both-true false b e = absurd cc

found-pending : (s : Inside) (local : Local) (o : Option Standing) → KeepsOrder s → find (waits_at local) (requests_of s).standing ≡ o → IfSome (option_map (λ r. r.id) o) (λ id. IsPending (requests_of s) id)
found-pending s local None keeps found = tt
found-pending s local (Some x) keeps found =
    let own = found-by-id (get s.slab) s.order.items (waits_at local) x keeps.ordered found in
    ap (λ o. option_map (λ r. is_none r.complete) o) own.0 ∙ ap (λ b. Some b) (both-true (is_none x.complete) (receives_at local x.ask) own.1)

-- the oldest receive that waits is pending
pub waiting-pending : (s : Inside) (local : Local) → KeepsOrder s → IfSome (oldest_waiting (requests_of s) local) (λ id. IsPending (requests_of s) id)
waiting-pending s local keeps = found-pending s local (find (waits_at local) (requests_of s).standing) keeps refl
