-- Within one step, an act brings a slot to the front: it gives back what lies above and takes it again.
use Rattle.std.proofs.Common.{◌≡◌, ◌≢◌, ℕ, zero, suc, ◌+◌, ◌<◌, ◌≤◌, List, [], ◌∷◌, length, set, sym, refl, ap, ◌∙◌, subst, arith, Option, Bool, cond, eqb, eq-eqb, ne_eqb, length-set}
use mathlib.Core.Option.{none, some, some-injective, some-ne-none}
use mathlib.Core.Logic.{dite}
use native.Mathlib.Decide.{ℕ_discrete}
use lib.ListN.{get_elem?}
use Rattle.atomic_table.specs.Table.{Act, keeps, takes, gives, chain, carried_after, homes_after, Valid}
use Rattle.atomic_table.proofs.Lists.{set_here, set_else}
use Rattle.mc_base.specs.Stored.{Stored}
use Rattle.shared_words.specs.Way.{Homes}
use Rattle.shared_words.specs.Slots.{Slot, under, fronted, carried_times}

abbrev pub Carried : Type 0
Carried = List Slot

abbrev pub under_act : Slot → Carried → Act (Option Stored)
under_act x [] = takes x.0 x.1
under_act x (y ∷ ys) = chain gives (chain (takes x.0 x.1) (takes y.0 y.1))

abbrev pub front_act : ℕ → Carried → Act (Option Stored)
front_act id [] = keeps
front_act id (x ∷ xs) = cond (eqb x.0 id) keeps (chain gives (chain (front_act id xs) (under_act x (fronted id xs))))

hit : (x : Slot) (id : ℕ) (xs : Carried) → x.0 ≡ id → fronted id (x ∷ xs) ≡ x ∷ xs
hit x id xs e = ap (λ (b : Bool). cond b (x ∷ xs) (under x (fronted id xs))) (eq-eqb x.0 id e)

miss : (x : Slot) (id : ℕ) (xs : Carried) → x.0 ≢ id → fronted id (x ∷ xs) ≡ under x (fronted id xs)
miss x id xs e = ap (λ (b : Bool). cond b (x ∷ xs) (under x (fronted id xs))) (ne_eqb x.0 id e)

act_hit : (x : Slot) (id : ℕ) (xs : Carried) → x.0 ≡ id → front_act id (x ∷ xs) ≡ keeps
act_hit x id xs e = ap (λ (b : Bool). cond b keeps (chain gives (chain (front_act id xs) (under_act x (fronted id xs))))) (eq-eqb x.0 id e)

act_miss : (x : Slot) (id : ℕ) (xs : Carried) → x.0 ≢ id → front_act id (x ∷ xs) ≡ chain gives (chain (front_act id xs) (under_act x (fronted id xs)))
act_miss x id xs e = ap (λ (b : Bool). cond b keeps (chain gives (chain (front_act id xs) (under_act x (fronted id xs))))) (ne_eqb x.0 id e)

under_carried : (x : Slot) (c : Carried) → carried_after c (under_act x c) ≡ under x c
under_carried x [] = refl
under_carried x (y ∷ ys) = refl

-- the seat carries the same slots, with the one asked for in front
pub front_carried : (id : ℕ) (c : Carried) → carried_after c (front_act id c) ≡ fronted id c
front_carried id [] = refl
front_carried id (x ∷ xs) = dite (ℕ_discrete x.0 id)
    (λ e. ap (carried_after (x ∷ xs)) (act_hit x id xs e) ∙ sym (hit x id xs e))
    (λ ne. ap (carried_after (x ∷ xs)) (act_miss x id xs ne) ∙ (ap (λ (c : Carried). carried_after c (under_act x (fronted id xs))) (front_carried id xs) ∙ (under_carried x (fronted id xs) ∙ sym (miss x id xs ne))))

under_count : (k : ℕ) (x : Slot) (c : Carried) → carried_times k (under x c) ≡ carried_times k (x ∷ c)
under_count k x [] = refl
under_count k x (y ∷ ys) = omega arith

pub front_count : (k id : ℕ) (c : Carried) → carried_times k (fronted id c) ≡ carried_times k c
front_count k id [] = refl
front_count k id (x ∷ xs) = dite (ℕ_discrete x.0 id) (λ e. ap (carried_times k) (hit x id xs e))
    (λ ne. ap (carried_times k) (miss x id xs ne) ∙ (under_count k x (fronted id xs) ∙ (let h = front_count k id xs in omega (arith, h))))

one_here : (x : Slot) (xs : Carried) → carried_times x.0 (x ∷ xs) ≡ 1 + carried_times x.0 xs
one_here x xs = ap (λ (b : Bool). cond b 1 0 + carried_times x.0 xs) (eq-eqb x.0 x.0 refl)

-- each slot that is carried is out, and carried once
abbrev pub Out : Homes → Carried → Type 0
Out hs c = ((k : ℕ) → 0 < carried_times k c → get_elem? hs k ≡ some none) × ((k : ℕ) → carried_times k c ≤ 1)

ext : {A : Type 0} (l m : List A) → ((i : ℕ) → get_elem? l i ≡ get_elem? m i) → l ≡ m
ext [] [] h = refl
ext [] (y ∷ ys) h = absurd (some-ne-none y (sym (h 0)))
ext (x ∷ xs) [] h = absurd (some-ne-none x (h 0))
ext (x ∷ xs) (y ∷ ys) h = let e = some-injective x y (h 0) in let t = ext xs ys (λ i. h (suc i)) in λ i. e i ∷ t i

in_range : {A : Type 0} (l : List A) (i : ℕ) (a : A) → get_elem? l i ≡ some a → i < length l
in_range [] i a e = absurd (some-ne-none a (sym e))
in_range (x ∷ xs) zero a e = omega arith
in_range (x ∷ xs) (suc i) a e = let h = in_range xs i a e in omega (arith, h)

more_there : (k : ℕ) (x : Slot) (xs : Carried) → 0 < carried_times k xs → 0 < carried_times k (x ∷ xs)
more_there k x xs h = omega (arith, h)

abbrev pub Goal : Homes → Carried → ℕ → Type 0
Goal hs c id = Valid hs c (front_act id c) × (homes_after hs c (front_act id c) ≡ hs)

under_out : (hs : Homes) (x : Slot) (c : Carried) → get_elem? hs x.0 ≡ some none → ((k : ℕ) → 0 < carried_times k c → get_elem? hs k ≡ some none) → carried_times x.0 c ≡ 0
    → Valid (set hs x.0 (some x.1)) c (under_act x c) × (homes_after (set hs x.0 (some x.1)) c (under_act x c) ≡ hs)
under_out hs x [] out rest none_of = let hs1 : Homes = set hs x.0 (some x.1) in (
  set_here hs x.0 (some x.1) (in_range hs x.0 none out),
  ext (set hs1 x.0 none) hs (λ i. dite (ℕ_discrete i x.0)
      (λ e. subst (λ (j : ℕ). get_elem? (set hs1 x.0 none) j ≡ get_elem? hs j) (sym e) (set_here hs1 x.0 none (let a = in_range hs x.0 none out in let b = length-set hs x.0 (some x.1) in omega (arith, a, b)) ∙ sym out))
      (λ ne. set_else hs1 x.0 i none ne ∙ set_else hs x.0 i (some x.1) ne)),
)
under_out hs x (y ∷ ys) out rest none_of =
    let hs1 : Homes = set hs x.0 (some x.1) in let hs2 : Homes = set hs1 y.0 (some y.1) in let hs3 : Homes = set hs2 x.0 none in let hs4 : Homes = set hs3 y.0 none in
    let ne : x.0 ≢ y.0 = (λ e. let h = one_here y ys in let z = ap (λ (k : ℕ). carried_times k (y ∷ ys)) e in omega (arith, h, z, none_of)) in
    let ny : y.0 ≢ x.0 = (λ e. ne (sym e)) in
    let out_y = rest y.0 (let h = one_here y ys in omega (arith, h)) in
    let lx = in_range hs x.0 none out in let ly = in_range hs y.0 none out_y in
    let l1 : length hs1 ≡ length hs = length-set hs x.0 (some x.1) in let l2 : length hs2 ≡ length hs1 = length-set hs1 y.0 (some y.1) in let l3 : length hs3 ≡ length hs2 = length-set hs2 x.0 none in (
      (
        tt,
        (
          set_else hs1 y.0 x.0 (some y.1) ne ∙ set_here hs x.0 (some x.1) lx,
          set_else hs2 x.0 y.0 none ny ∙ set_here hs1 y.0 (some y.1) (omega (arith, l1, ly)),
        ),
      ),
      ext hs4 hs (λ i. dite (ℕ_discrete i y.0)
          (λ e. subst (λ (j : ℕ). get_elem? hs4 j ≡ get_elem? hs j) (sym e) (set_here hs3 y.0 none (omega (arith, l1, l2, l3, ly)) ∙ sym out_y))
          (λ n. set_else hs3 y.0 i none n ∙ dite (ℕ_discrete i x.0)
          (λ e. subst (λ (j : ℕ). get_elem? hs3 j ≡ get_elem? hs j) (sym e) (set_here hs2 x.0 none (omega (arith, l1, l2, lx)) ∙ sym out))
          (λ m. set_else hs2 x.0 i none m ∙ (set_else hs1 y.0 i (some y.1) n ∙ set_else hs x.0 i (some x.1) m)))),
    )

-- the act is lawful, and leaves every slot where it was
pub front_out : (id : ℕ) (c : Carried) (hs : Homes) → ((k : ℕ) → 0 < carried_times k c → get_elem? hs k ≡ some none) → ((k : ℕ) → carried_times k c ≤ 1) → Goal hs c id
front_out id [] hs out once = (tt, refl)
front_out id (x ∷ xs) hs out once = dite (ℕ_discrete x.0 id)
    (λ e. subst (λ (a : Act (Option Stored)). Valid hs (x ∷ xs) a × (homes_after hs (x ∷ xs) a ≡ hs)) (sym (act_hit x id xs e)) (tt, refl))
    (λ ne. subst (λ (a : Act (Option Stored)). Valid hs (x ∷ xs) a × (homes_after hs (x ∷ xs) a ≡ hs)) (sym (act_miss x id xs ne))
    (let hs1 : Homes = set hs x.0 (some x.1) in
    let here = out x.0 (let h = one_here x xs in omega (arith, h)) in
    let alone : carried_times x.0 xs ≡ 0 = (let h = one_here x xs in let o = once x.0 in omega (arith, h, o)) in
    let apart : (k : ℕ) → 0 < carried_times k xs → k ≢ x.0 = (λ k l e. let z = ap (λ (j : ℕ). carried_times j xs) e in omega (arith, z, alone, l)) in
    let ih = front_out id xs hs1 (λ k l. set_else hs x.0 k (some x.1) (apart k l) ∙ out k (more_there k x xs l)) (λ k. let o = once k in omega (arith, o)) in
    let alone' : carried_times x.0 (fronted id xs) ≡ 0 = front_count x.0 id xs ∙ alone in
    let u = under_out hs x (fronted id xs) here (λ k l. out k (more_there k x xs (let q = front_count k id xs in omega (arith, q, l)))) alone' in
    let carried = front_carried id xs in let home : homes_after hs1 xs (front_act id xs) ≡ hs1 = ih.1 in (
      (tt, (ih.0, subst (λ (z : Homes × Carried). Valid z.0 z.1 (under_act x (fronted id xs))) (λ i. (sym home i, sym carried i)) u.0)),
      subst (λ (z : Homes × Carried). homes_after z.0 z.1 (under_act x (fronted id xs)) ≡ hs) (λ i. (sym home i, sym carried i)) u.1,
    )))

-- what was asked for is in front
pub front_first : (id : ℕ) (c : Carried) → 0 < carried_times id c → (v : Option Stored) × (rest : Carried) × (fronted id c ≡ (id, v) ∷ rest)
front_first id [] there = absurd (omega arith)
front_first id (x ∷ xs) there = dite (ℕ_discrete x.0 id)
    (λ e. (x.1, xs, hit x id xs e ∙ (λ i. (e i, x.1) ∷ xs)))
    (λ ne. let other : (carried_times id (x ∷ []) ≡ 0) = ap (λ (b : Bool). cond b 1 0 + carried_times id []) (ne_eqb x.0 id ne) in
    let t = front_first id xs (omega (arith, there, other)) in
    (t.0, x ∷ t.1, miss x id xs ne ∙ ap (under x) t.2))
