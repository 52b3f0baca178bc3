-- What is owed to linked domains, as the latest of the events.
use Rattle.std.proofs.Common.{◌≡◌, ◌⊎◌, ◌<◌, ◌≤◌, ◌+◌, ◌-◌, ◌∙◌, ℕ, zero, suc, Bool, true, false, List, [], ◌∷◌, ◌++◌, length, map, take, drop, get_or, set, cond, refl, sym, ap, subst, inl, inr, arith}
use Rattle.std.specs.Prelude.{◌==◌, nat_le, find, slice_get, option_map, option_and_then, Option, Some, None}
use Rattle.std.proofs.lemmas.Option.{slice_get_past}
use Rattle.std.specs.List.{AllByRecursion, list_any}
use Rattle.std.proofs.lemmas.Bool.{cases_Bool, cases_lt, eq-eqb, eqb-true, eqb-false, le-leb, leb-true, or_parts, or_cases, or_left, or_right, or_from, both_ways}
use Rattle.std.proofs.lemmas.List.{length_push}
use Rattle.endpoint_table.specs.declared.announced.Announced.{Announced}
use Rattle.endpoint_table.specs.declared.debts.Debt.{Debt}
use Rattle.endpoint_table.specs.Table.{Owing, tells_gone, owes_gone, also_owing, told_oldest}
use Rattle.endpoint_table.specs.InTable.{owing_of, owing_in, one_more, one_less, owes, settled_events, IsTight}

-- ---- a list that is written from its front on

written-get : {X : Type 0} (f : X → X) (xs : List X) (i : ℕ) (d : X) → i < length xs → get_or (map f (take i xs) ++ drop i xs) i d ≡ get_or xs i d
written-get f [] i d lt = absurd (omega arith)
written-get f (x ∷ xs) zero d lt = refl
written-get f (x ∷ xs) (suc i) d lt = written-get f xs i d (omega arith)

written-set : {X : Type 0} (f : X → X) (xs : List X) (i : ℕ) (d : X) → i < length xs → set (map f (take i xs) ++ drop i xs) i (f (get_or xs i d)) ≡ map f (take (suc i) xs) ++ drop (suc i) xs
written-set f [] i d lt = absurd (omega arith)
written-set f (x ∷ xs) zero d lt = refl
written-set f (x ∷ xs) (suc i) d lt = ap (λ ys. f x ∷ ys) (written-set f xs i d (omega arith))

-- one more of them is written
pub written_step : {X : Type 0} (f : X → X) (xs written : List X) (i : ℕ) (old new : X) → i < length xs → written ≡ map f (take i xs) ++ drop i xs → old ≡ get_or written i old → new ≡ f old → set written i new ≡ map f (take (i + 1) xs) ++ drop (i + 1) xs
written_step {X} f xs written i old new lt is at made =
    let next : suc i ≡ i + 1 = omega arith in
    let read : old ≡ get_or xs i old = at ∙ ap (λ (ws : List X). get_or ws i old) is ∙ written-get f xs i old lt in
    ap (λ (ws : List X). set ws i new) is
    ∙ ap (λ (y : X). set (map f (take i xs) ++ drop i xs) i y) (made ∙ ap f read)
    ∙ written-set f xs i old lt
    ∙ ap (λ n. map f (take n xs) ++ drop n xs) next

-- ---- cuts of the events

drop-push : {X : Type 0} (n : ℕ) (xs : List X) (y : X) → n ≤ length xs → drop n (xs ++ y ∷ []) ≡ drop n xs ++ y ∷ []
drop-push zero xs y le = refl
drop-push (suc n) [] y le = absurd (omega arith)
drop-push (suc n) (x ∷ xs) y le = drop-push n xs y (omega arith)

drop-next : {X : Type 0} (n : ℕ) (xs : List X) → drop 1 (drop n xs) ≡ drop (suc n) xs
drop-next zero xs = refl
drop-next (suc n) [] = refl
drop-next (suc n) (x ∷ xs) = drop-next n xs

drop-whole : {X : Type 0} (xs : List X) → drop (length xs) xs ≡ []
drop-whole [] = refl
drop-whole (x ∷ xs) = drop-whole xs

abbrev owing-as : ℕ → List Announced → Owing
owing-as peer owed = record { peer = peer; owed = owed }

-- ---- one event more

owing_of-announced : (es : List Announced) (e : Announced) (d : Debt) → d.owed ≤ length es → owing_of (es ++ e ∷ []) (one_more d) ≡ also_owing e (owing_of es d)
owing_of-announced es e d le =
    let count : length (es ++ e ∷ []) - (d.owed + 1) ≡ length es - d.owed = omega (arith, length_push es e) in
    ap (owing-as d.peer) (ap (λ n. drop n (es ++ e ∷ [])) count ∙ drop-push (length es - d.owed) es e (omega arith))

pub owing-announced : (es : List Announced) (e : Announced) (ds : List Debt) → AllByRecursion (λ d. d.owed ≤ length es) ds → owing_in (es ++ e ∷ []) (map one_more ds) ≡ map (also_owing e) (owing_in es ds)
owing-announced es e [] within = refl
owing-announced es e (d ∷ ds) within =
    ap (λ (o : Owing). o ∷ owing_in (es ++ e ∷ []) (map one_more ds)) (owing_of-announced es e d within.0)
    ∙ ap (λ (os : List Owing). also_owing e (owing_of es d) ∷ os) (owing-announced es e ds within.1)

pub within-announced : (n m : ℕ) (ds : List Debt) → m ≡ n + 1 → AllByRecursion (λ d. d.owed ≤ n) ds → AllByRecursion (λ d. d.owed ≤ m) (map one_more ds)
within-announced n m [] is within = tt
within-announced n m (d ∷ ds) is within = (omega (arith, within.0), within-announced n m ds is within.1)

owes-more : (n m : ℕ) (d : Debt) → m ≡ n + 1 → owes n d ≡ true → owes m (one_more d) ≡ true
owes-more n m d is all = let same = eqb-true d.owed n all in eq-eqb (d.owed + 1) m (omega arith)

pub owed-all-announced : (n m : ℕ) (ds : List Debt) → m ≡ n + 1 → list_any (owes n) ds ≡ true → list_any (owes m) (map one_more ds) ≡ true
owed-all-announced n m [] is some = absurd cc
owed-all-announced n m (d ∷ ds) is some = elim (or_cases (owes n d) (list_any (owes n) ds) some) [
  | inl here ↦ or_left (owes m (one_more d)) (list_any (owes m) (map one_more ds)) (owes-more n m d is here)
  | inr later ↦ or_right (owes m (one_more d)) (list_any (owes m) (map one_more ds)) (owed-all-announced n m ds is later)
]

-- ---- one event told

told-as : (es : List Announced) (d : Debt) (b : Bool) → d.owed ≤ length es → owing_of es (cond b (record d { owed = d.owed - 1 }) d) ≡ cond b (record (owing_of es d) { owed = drop 1 (drop (length es - d.owed) es) }) (owing_of es d)
told-as es d false le = refl
told-as es d true le = elim (cases_lt 0 d.owed) [
  | inl some ↦
      let count : length es - (d.owed - 1) ≡ suc (length es - d.owed) = omega arith in
      ap (owing-as d.peer) (ap (λ n. drop n es) count ∙ sym (drop-next (length es - d.owed) es))
  | inr none ↦
      let count : length es - (d.owed - 1) ≡ length es = omega arith in
      let same : length es - d.owed ≡ length es = omega arith in
      ap (owing-as d.peer) (ap (λ n. drop n es) count ∙ drop-whole es ∙ sym (ap (λ (xs : List Announced). drop 1 xs) (ap (λ n. drop n es) same ∙ drop-whole es)))
]

pub owing-told : (es : List Announced) (peer : ℕ) (ds : List Debt) → AllByRecursion (λ d. d.owed ≤ length es) ds → owing_in es (map (one_less peer) ds) ≡ map (told_oldest peer) (owing_in es ds)
owing-told es peer [] within = refl
owing-told es peer (d ∷ ds) within =
    ap (λ (o : Owing). o ∷ owing_in es (map (one_less peer) ds)) (told-as es d (d.peer == peer) within.0)
    ∙ ap (λ (os : List Owing). told_oldest peer (owing_of es d) ∷ os) (owing-told es peer ds within.1)

within-less-as : (n : ℕ) (d : Debt) (b : Bool) → d.owed ≤ n → (cond b (record d { owed = d.owed - 1 }) d).owed ≤ n
within-less-as n d true le = omega arith
within-less-as n d false le = le

pub within-told : (n peer : ℕ) (ds : List Debt) → AllByRecursion (λ d. d.owed ≤ n) ds → AllByRecursion (λ d. d.owed ≤ n) (map (one_less peer) ds)
within-told n peer [] within = tt
within-told n peer (d ∷ ds) within = (within-less-as n d (d.peer == peer) within.0, within-told n peer ds within.1)

-- all but one of so many events at least are owed
abbrev pub nearly : ℕ → Debt → Bool
nearly n d = nat_le n (d.owed + 1)

nearly-less-as : (n : ℕ) (d : Debt) (b : Bool) → d.owed ≡ n → nat_le n ((cond b (record d { owed = d.owed - 1 }) d).owed + 1) ≡ true
nearly-less-as n d true is = le-leb n ((d.owed - 1) + 1) (omega arith)
nearly-less-as n d false is = le-leb n (d.owed + 1) (omega arith)

pub nearly-told : (n peer : ℕ) (ds : List Debt) → list_any (owes n) ds ≡ true → list_any (nearly n) (map (one_less peer) ds) ≡ true
nearly-told n peer [] some = absurd cc
nearly-told n peer (d ∷ ds) some = elim (or_cases (owes n d) (list_any (owes n) ds) some) [
  | inl here ↦ or_left (nearly n (one_less peer d)) (list_any (nearly n) (map (one_less peer) ds)) (nearly-less-as n d (d.peer == peer) (eqb-true d.owed n here))
  | inr later ↦ or_right (nearly n (one_less peer d)) (list_any (nearly n) (map (one_less peer) ds)) (nearly-told n peer ds later)
]

pub nearly-all : (n : ℕ) (ds : List Debt) → list_any (owes n) ds ≡ true → list_any (nearly n) ds ≡ true
nearly-all n [] some = absurd cc
nearly-all n (d ∷ ds) some = elim (or_cases (owes n d) (list_any (owes n) ds) some) [
  | inl here ↦ or_left (nearly n d) (list_any (nearly n) ds) (let same = eqb-true d.owed n here in le-leb n (d.owed + 1) (omega arith))
  | inr later ↦ or_right (nearly n d) (list_any (nearly n) ds) (nearly-all n ds later)
]

-- ---- the oldest event goes

within-dropped : (n : ℕ) (ds : List Debt) → AllByRecursion (λ d. d.owed ≤ suc n) ds → list_any (owes (suc n)) ds ≡ false → AllByRecursion (λ d. d.owed ≤ n) ds
within-dropped n [] within none = tt
within-dropped n (d ∷ ds) within none =
    let parts = or_parts (owes (suc n) d) (list_any (owes (suc n)) ds) none in
    let differs : d.owed ≡ suc n → ⊥ = eqb-false d.owed (suc n) parts.0 in
    (omega (arith, within.0, differs), within-dropped n ds within.1 parts.1)

owed-all-dropped : (n : ℕ) (ds : List Debt) → AllByRecursion (λ d. d.owed ≤ n) ds → list_any (nearly (suc n)) ds ≡ true → list_any (owes n) ds ≡ true
owed-all-dropped n [] within some = absurd cc
owed-all-dropped n (d ∷ ds) within some = elim (or_cases (nearly (suc n) d) (list_any (nearly (suc n)) ds) some) [
  | inl here ↦ or_left (owes n d) (list_any (owes n) ds) (let least = leb-true (suc n) (d.owed + 1) here in eq-eqb d.owed n (omega (arith, within.0)))
  | inr later ↦ or_right (owes n d) (list_any (owes n) ds) (owed-all-dropped n ds within.1 later)
]

-- all events but the oldest at least are owed to one
abbrev pub IsNear : List Announced → List Debt → Type 0
IsNear es ds = (drop 1 es ≡ []) ⊎ (list_any (nearly (length es)) ds ≡ true)

tight-dropped : (es : List Announced) (ds : List Debt) → AllByRecursion (λ d. d.owed ≤ length es) ds → IsNear es ds → list_any (owes (length es)) ds ≡ false → IsTight (drop 1 es) ds
tight-dropped [] ds within near none = record { within = within; tight = inl refl }
tight-dropped (e ∷ es) ds within near none =
    let fewer = within-dropped (length es) ds within none in
    record {
      within = fewer;
      tight = elim near [ inl empty ↦ inl empty | inr some ↦ inr (owed-all-dropped (length es) ds fewer some) ];
    }

pub settled-tight : (es : List Announced) (ds : List Debt) → AllByRecursion (λ d. d.owed ≤ length es) ds → IsNear es ds → IsTight (settled_events es ds) ds
settled-tight es ds within near = elim (cases_Bool (list_any (owes (length es)) ds)) [
  | inl all ↦ subst (λ b. IsTight (cond b es (drop 1 es)) ds) (sym all) (record { within = within; tight = inr all })
  | inr none ↦ subst (λ b. IsTight (cond b es (drop 1 es)) ds) (sym none) (tight-dropped es ds within near none)
]

owing_of-dropped : (e : Announced) (es : List Announced) (d : Debt) → d.owed ≤ length es → owing_of es d ≡ owing_of (e ∷ es) d
owing_of-dropped e es d le =
    let count : length (e ∷ es) - d.owed ≡ suc (length es - d.owed) = omega arith in
    ap (owing-as d.peer) (sym (ap (λ n. drop n (e ∷ es)) count))

owing-rest : (e : Announced) (es : List Announced) (ds : List Debt) → AllByRecursion (λ d. d.owed ≤ length es) ds → owing_in es ds ≡ owing_in (e ∷ es) ds
owing-rest e es [] within = refl
owing-rest e es (d ∷ ds) within =
    ap (λ (o : Owing). o ∷ owing_in es ds) (owing_of-dropped e es d within.0)
    ∙ ap (λ (os : List Owing). owing_of (e ∷ es) d ∷ os) (owing-rest e es ds within.1)

owing-dropped : (es : List Announced) (ds : List Debt) → AllByRecursion (λ d. d.owed ≤ length es) ds → list_any (owes (length es)) ds ≡ false → owing_in (drop 1 es) ds ≡ owing_in es ds
owing-dropped [] ds within none = refl
owing-dropped (e ∷ es) ds within none = owing-rest e es ds (within-dropped (length es) ds within none)

pub owing-settled : (es : List Announced) (ds : List Debt) → AllByRecursion (λ d. d.owed ≤ length es) ds → owing_in (settled_events es ds) ds ≡ owing_in es ds
owing-settled es ds within = elim (cases_Bool (list_any (owes (length es)) ds)) [
  | inl all ↦ ap (λ b. owing_in (cond b es (drop 1 es)) ds) all
  | inr none ↦ ap (λ b. owing_in (cond b es (drop 1 es)) ds) none ∙ owing-dropped es ds within none
]

-- ---- an end that is owed

any-cut : {X : Type 0} (p : X → Bool) (n : ℕ) (xs : List X) → list_any p xs ≡ false → list_any p (drop n xs) ≡ false
any-cut p zero xs none = none
any-cut p (suc n) [] none = refl
any-cut p (suc n) (x ∷ xs) none = any-cut p n xs (or_parts (p x) (list_any p xs) none).1

none-owed : (x : ℕ) (es : List Announced) (ds : List Debt) → list_any (tells_gone x) es ≡ false → list_any (owes_gone x) (owing_in es ds) ≡ false
none-owed x es [] none = refl
none-owed x es (d ∷ ds) none =
    or_from (owes_gone x (owing_of es d)) (list_any (owes_gone x) (owing_in es ds)) (any-cut (tells_gone x) (length es - d.owed) es none) (none-owed x es ds none)

owed-whole : (x : ℕ) (es : List Announced) (d : Debt) → owes (length es) d ≡ true → list_any (tells_gone x) es ≡ true → owes_gone x (owing_of es d) ≡ true
owed-whole x es d all some =
    let same = eqb-true d.owed (length es) all in
    let count : length es - d.owed ≡ 0 = omega arith in
    ap (λ n. list_any (tells_gone x) (drop n es)) count ∙ some

some-owed : (x : ℕ) (es : List Announced) (ds : List Debt) → list_any (owes (length es)) ds ≡ true → list_any (tells_gone x) es ≡ true → list_any (owes_gone x) (owing_in es ds) ≡ true
some-owed x es [] all some = absurd cc
some-owed x es (d ∷ ds) all some = elim (or_cases (owes (length es) d) (list_any (owes (length es)) ds) all) [
  | inl here ↦ or_left (owes_gone x (owing_of es d)) (list_any (owes_gone x) (owing_in es ds)) (owed-whole x es d here some)
  | inr later ↦ or_right (owes_gone x (owing_of es d)) (list_any (owes_gone x) (owing_in es ds)) (some-owed x es ds later some)
]

-- what the events tell is owed to one at least
pub owed-is-told : (x : ℕ) (es : List Announced) (ds : List Debt) → IsTight es ds → list_any (owes_gone x) (owing_in es ds) ≡ list_any (tells_gone x) es
owed-is-told x es ds tight = elim (cases_Bool (list_any (tells_gone x) es)) [
  | inr none ↦ none-owed x es ds none ∙ sym none
  | inl some ↦ elim tight.tight [
    | inl empty ↦ absurd (both_ways (list_any (tells_gone x) es) (ap (list_any (tells_gone x)) empty) some)
    | inr all ↦ some-owed x es ds all some ∙ sym some
  ]
]

-- ---- the oldest that is owed

find-owing : (es : List Announced) (peer : ℕ) (ds : List Debt) → find (λ (o : Owing). o.peer == peer) (owing_in es ds) ≡ option_map (owing_of es) (find (λ (d : Debt). d.peer == peer) ds)
find-owing es peer [] = refl
find-owing es peer (d ∷ ds) =
    elim (d.peer == peer) as (λ b. cond b (Some (owing_of es d)) (find (λ (o : Owing). o.peer == peer) (owing_in es ds)) ≡ option_map (owing_of es) (cond b (Some d) (find (λ (x : Debt). x.peer == peer) ds)))
    [ true ↦ refl | false ↦ find-owing es peer ds ]

first-left : {X : Type 0} (n : ℕ) (xs : List X) → slice_get (drop n xs) 0 ≡ slice_get xs n
first-left zero [] = refl
first-left zero (x ∷ xs) = refl
first-left (suc n) [] = refl
first-left (suc n) (x ∷ xs) = first-left n xs

pub oldest_owed-some : (es : List Announced) (peer : ℕ) (ds : List Debt) (d : Debt) → Some d ≡ find (λ (x : Debt). x.peer == peer) ds → option_and_then (λ (o : Owing). slice_get o.owed 0) (find (λ (o : Owing). o.peer == peer) (owing_in es ds)) ≡ slice_get es (length es - d.owed)
oldest_owed-some es peer ds d is =
    ap (option_and_then (λ (o : Owing). slice_get o.owed 0)) (find-owing es peer ds ∙ ap (option_map (owing_of es)) (sym is))
    ∙ first-left (length es - d.owed) es

pub oldest_owed-none : (es : List Announced) (peer : ℕ) (ds : List Debt) → None ≡ find (λ (x : Debt). x.peer == peer) ds → option_and_then (λ (o : Owing). slice_get o.owed 0) (find (λ (o : Owing). o.peer == peer) (owing_in es ds)) ≡ None
oldest_owed-none es peer ds is = ap (option_and_then (λ (o : Owing). slice_get o.owed 0)) (find-owing es peer ds ∙ ap (option_map (owing_of es)) (sym is))

nothing_owed_by : (debt : Option Debt) (es : List Announced) (peer : ℕ) (ds : List Debt) → debt ≡ find (λ (x : Debt). x.peer == peer) ds → length es ≡ 0 → option_and_then (λ (o : Owing). slice_get o.owed 0) (find (λ (o : Owing). o.peer == peer) (owing_in es ds)) ≡ None
nothing_owed_by None es peer ds is none = oldest_owed-none es peer ds is
nothing_owed_by (Some d) es peer ds is none = oldest_owed-some es peer ds d is ∙ slice_get_past es (length es - d.owed) (omega (arith, none))

-- with no events nothing is owed
pub nothing_owed : (es : List Announced) (peer : ℕ) (ds : List Debt) → length es ≡ 0 → option_and_then (λ (o : Owing). slice_get o.owed 0) (find (λ (o : Owing). o.peer == peer) (owing_in es ds)) ≡ None
nothing_owed es peer ds none = nothing_owed_by (find (λ (x : Debt). x.peer == peer) ds) es peer ds refl none
