-- A receive that is begun.
use Rattle.std.proofs.Common.{◌≡◌, ◌≢◌, ℕ, ◌+◌, ◌<◌, ◌≤◌, Bool, true, false, cond, List, [], ◌∷◌, ◌++◌, length, map, Option, Some, None, refl, sym, ap, subst, ◌∙◌, arith, eq-eqb}
use Rattle.std.specs.Prelude.{nat_lt, ◌%◌, ◌^◌, count_by}
use Rattle.std.specs.List.{AllByRecursion}
use Rattle.std.proofs.lemmas.Bool.{and_from, ltb-true, ltb-false}
use Rattle.std.proofs.lemmas.List.{length_push, map_push}
use Rattle.mc_base.specs.declared.request.RequestId.{RequestId}
use Rattle.mc_base.specs.declared.request.Slot.{Slot}
use Rattle.board_model.proofs.ListsCounts.{count-cons}
use Rattle.request_set.specs.declared.ask.Ask.{Ask}
use Rattle.request_set.specs.declared.ask.Complete.{Complete}
use Rattle.request_set.specs.Requests.{Requests, Standing, completed, is_id, keys, with_complete, with_request}
use Rattle.board_model.specs.State.{DomainState}
use Rattle.domain_parts.specs.Calls.{IsFresh}
use Rattle.domain_parts.specs.InRequests.{AreReceives, IsReceive, handed_slots, slots_in}
use Rattle.domain_parts.specs.Steps.{with_last}
use Rattle.domain_parts.proofs.Placed.{HasMore, HaveSame}
use Rattle.domain_parts.proofs.Receives.{differ-more, handed-new, keys_in, not-among, others-fresh, others-stay}
use Rattle.domain_parts.proofs.Tables.{All-push}

abbrev pub new_standing : RequestId → Ask → Option Complete → Standing
new_standing id a o = record { id = id; ask = a; complete = o }

-- the new request is complete at once
pub last-complete : (q : Requests) (id : RequestId) (a : Ask) (how : Complete) → AllByRecursion (λ key. key ≢ id.key) (keys q) → with_complete (with_request q id a) id how ≡ with_last q id a (Some how)
last-complete q id a how fresh =
    let r = new_standing id a None in
    let itself : is_id id r ≡ true = and_from _ _ (eq-eqb id.key id.key refl) (eq-eqb id.serial id.serial refl) in
    ap (λ (xs : List Standing). record { standing = xs; given = (q.given + 1) % 2 ^ 64 })
    (map_push (completed id how) q.standing r
    ∙ ap (λ (xs : List Standing). xs ++ completed id how r ∷ []) (others-stay id how q.standing (others-fresh id q.standing fresh))
    ∙ ap (λ (x : Bool). q.standing ++ cond x (new_standing id a (Some how)) r ∷ []) itself)

pub last-ids : (q : Requests) (id : RequestId) (a : Ask) (o : Option Complete) → map (λ (r : Standing). r.id) (with_last q id a o).standing ≡ map (λ (r : Standing). r.id) q.standing ++ id ∷ []
last-ids q id a o = map_push (λ (r : Standing). r.id) q.standing (new_standing id a o)

pub keys-of_ids : (rs : List Standing) → map (λ (i : RequestId). i.key) (map (λ (r : Standing). r.id) rs) ≡ keys_in rs
keys-of_ids [] = refl
keys-of_ids (r ∷ rs) = ap (λ (ks : List ℕ). r.id.key ∷ ks) (keys-of_ids rs)

pub few-left : (n : ℕ) → (64 ≤ n → ⊥) → n < 64
few-left n more = go (nat_lt n 64) refl
  where
    go : (b : Bool) → nat_lt n 64 ≡ b → n < 64
    go true lt = ltb-true n 64 lt
    go false ge = absurd (more (ltb-false n 64 ge))

pub last-receives : (q : Requests) (id : RequestId) (a : Ask) (o : Option Complete) → AreReceives q → IsReceive (new_standing id a o) → AllByRecursion (λ key. key ≢ id.key) (keys q) → length q.standing < 64 → AreReceives (with_last q id a o)
last-receives q id a o receives is fresh few =
    record {
      each = All-push IsReceive q.standing (new_standing id a o) receives.each is;
      differ = differ-more (new_standing id a o) q.standing fresh receives.differ;
      few = let long = length_push q.standing (new_standing id a o) in omega (arith, long, few);
    }

-- nothing was handed
pub pending-same : (q : Requests) (id : RequestId) (a : Ask) → HaveSame (handed_slots q.standing) (handed_slots (with_last q id a None).standing)
pending-same q id a test = let more = handed-new test (new_standing id a None) q.standing in omega (arith, more)

-- a slot was
pub last-more : (q : Requests) (id : RequestId) (a : Ask) (slot : Slot) (how : Complete) → slots_in (Some how) ≡ slot ∷ [] → HasMore slot (handed_slots q.standing) (handed_slots (with_last q id a (Some how)).standing)
last-more q id a slot how holds test =
    let all = handed-new test (new_standing id a (Some how)) q.standing ∙ ap (λ (ss : List Slot). count_by test (handed_slots q.standing) + count_by test ss) holds in
    let one = count-cons test slot [] in
    omega (arith, all, one)

-- a key that no request has
pub id-fresh : (q : Requests) (s : DomainState) (id : RequestId) → AllByRecursion (λ key. key ≢ id.key) (keys q) → id.key ≢ 4294967295 → id.serial ≡ s.requests_given → IsFresh (map (λ (r : Standing). r.id) q.standing) s id
id-fresh q s id fresh real serial =
    let ids = map (λ (r : Standing). r.id) q.standing in
    record {
      differs = not-among id.key (map (λ (i : RequestId). i.key) ids) (subst (AllByRecursion (λ (key : ℕ). key ≢ id.key)) (sym (keys-of_ids q.standing)) fresh);
      is_key = real;
      serial = serial;
    }
