-- The requests that stand: one is complete or ended, and the others stay.
use Rattle.std.proofs.Common.{◌≡◌, ◌≢◌, ℕ, zero, suc, ◌+◌, ◌≤◌, Bool, true, false, cond, List, [], ◌∷◌, ◌++◌, length, map, Option, Some, None, refl, sym, ap, ◌∙◌, subst, arith, eq-eqb}
use Rattle.std.specs.Prelude.{Contains, count_by, filter, find, is_none, is_some, not, option_and_then, option_map, position, slice_get, ◌&&◌, ◌==◌}
use Rattle.std.specs.List.{AllByRecursion, position_from}
use Rattle.std.proofs.lemmas.Bool.{eqb-true, eqb-false, and_parts, and_from, false_from_ne_true}
use Rattle.std.proofs.lemmas.Iterator.Adapters.{position_from-zero}
use Rattle.std.proofs.lemmas.List.{map_push}
use Rattle.std.proofs.lemmas.Option.{slice_get-map}
use Rattle.mc_base.specs.declared.name.Local.{Local}
use Rattle.mc_base.specs.declared.request.RequestId.{RequestId}
use Rattle.mc_base.specs.declared.request.Slot.{Slot}
use Rattle.board_model.specs.Lists.{changed, changed_at, without, without_at}
use Rattle.board_model.specs.State as state
use Rattle.board_model.proofs.ListsCounts.{count-append, count-cons}
use Rattle.board_model.proofs.MessageLists.{changed_first, without_first, changed-position, without-position, get-position, some-position}
use Rattle.buffer_book.specs.Book.{AllDiffer, Book}
use Rattle.request_set.specs.declared.ask.Ask.{Ask}
use Rattle.request_set.specs.declared.ask.Ask.TheVariants as ask
use Rattle.request_set.specs.declared.ask.Complete.{Complete}
use Rattle.request_set.specs.Requests.{Requests, Standing, is_id, completed, receives_at, request_of, waits_at}
use Rattle.domain_parts.specs.DomainView.{has_id}
use Rattle.domain_parts.specs.InBook.{asked_in, outcome_in, request_in, requests_in}
use Rattle.domain_parts.specs.InRequests.{AreReceives, IsReceive, Receives, handed_by, handed_slots, slots_in}
use Rattle.domain_parts.specs.InPlaces.{one_if}
use Rattle.domain_parts.proofs.Tables.{All-push, position-map}

abbrev pub key_in : Standing → ℕ
key_in r = r.id.key

abbrev pub keys_in : List Standing → List ℕ
keys_in rs = map key_in rs

-- ---- lists

pub map-changed : {X Y : Type 0} (f : X → Y) (g : X → X) (h : Y → Y) → ((x : X) → f (g x) ≡ h (f x)) → (o : Option ℕ) (xs : List X) → map f (changed g o xs) ≡ changed h o (map f xs)
map-changed f g h same None xs = refl
map-changed {X} {Y} f g h same (Some i) xs = go i xs
  where
    go : (i : ℕ) (xs : List X) → map f (changed_at g i xs) ≡ changed_at h i (map f xs)
    go i [] = refl
    go zero (x ∷ xs) = ap (λ (y : Y). y ∷ map f xs) (same x)
    go (suc i) (x ∷ xs) = ap (λ (ys : List Y). f x ∷ ys) (go i xs)

pub map-without : {X Y : Type 0} (f : X → Y) (o : Option ℕ) (xs : List X) → map f (without o xs) ≡ without o (map f xs)
map-without f None xs = refl
map-without {X} {Y} f (Some i) xs = go i xs
  where
    go : (i : ℕ) (xs : List X) → map f (without_at i xs) ≡ without_at i (map f xs)
    go i [] = refl
    go zero (x ∷ xs) = refl
    go (suc i) (x ∷ xs) = ap (λ (ys : List Y). f x ∷ ys) (go i xs)

position_from-same : {X : Type 0} (p q : X → Bool) → ((x : X) → p x ≡ q x) → (i : ℕ) (xs : List X) → position_from p i xs ≡ position_from q i xs
position_from-same p q same i [] = refl
position_from-same p q same i (x ∷ xs) = ap (λ (b : Bool). cond b (Some i) (position_from p (i + 1) xs)) (same x) ∙ ap (λ (o : Option ℕ). cond (q x) (Some i) o) (position_from-same p q same (i + 1) xs)

pub position-same : {X : Type 0} (p q : X → Bool) → ((x : X) → p x ≡ q x) → (xs : List X) → position p xs ≡ position q xs
position-same p q same xs = position_from-zero p xs ∙ position_from-same p q same 0 xs ∙ sym (position_from-zero q xs)

pub none-position : {X : Type 0} (p : X → Bool) (xs : List X) → find p xs ≡ None → position p xs ≡ None
none-position p xs none = go (position p xs) (some-position p xs ∙ ap (λ o. is_some o) none)
  where
    go : (o : Option ℕ) → is_some o ≡ false → o ≡ None
    go None e = refl
    go (Some i) e = absurd cc

pub not-among : (key : ℕ) (ks : List ℕ) → AllByRecursion (λ k. k ≢ key) ks → Contains ks key → ⊥
not-among key [] all (k, lt, is) = absurd (omega arith)
not-among key (x ∷ ks) all (zero, lt, is) = all.0 is
not-among key (x ∷ ks) all (suc k, lt, is) = not-among key ks all.1 (k, omega arith, is)

-- ---- ids

pub itself : (r : Standing) → is_id r.id r ≡ true
itself r = and_from _ _ (eq-eqb r.id.key r.id.key refl) (eq-eqb r.id.serial r.id.serial refl)

key-is : (id : RequestId) (r : Standing) → is_id id r ≡ true → r.id.key ≡ id.key
key-is id r is = eqb-true r.id.key id.key (and_parts (r.id.key == id.key) (r.id.serial == id.serial) is).0

pub other-key : (id : RequestId) (r : Standing) → (r.id.key == id.key) ≡ false → is_id id r ≡ false
other-key id r differ = ap (λ (b : Bool). b && r.id.serial == id.serial) differ

-- each has another key than the id
abbrev Others : RequestId → List Standing → Type 0
Others id rs = AllByRecursion (λ k. (k == id.key) ≡ false) (keys_in rs)

pub others-of : (id : RequestId) (r : Standing) (rs : List Standing) → AllDiffer (keys_in (r ∷ rs)) → is_id id r ≡ true → Others id rs
others-of id r rs differ is = subst (λ (n : ℕ). AllByRecursion (λ k. (k == n) ≡ false) (keys_in rs)) (key-is id r is) differ.0

pub others-fresh : (id : RequestId) (rs : List Standing) → AllByRecursion (λ k. k ≢ id.key) (keys_in rs) → Others id rs
others-fresh id [] all = tt
others-fresh id (r ∷ rs) all = (false_from_ne_true (r.id.key == id.key) (λ same. all.0 (eqb-true r.id.key id.key same)), others-fresh id rs all.1)

abbrev pub complete_now : Complete → Standing → Standing
complete_now how r = record r { complete = Some how }

pub others-stay : (id : RequestId) (how : Complete) (rs : List Standing) → Others id rs → map (completed id how) rs ≡ rs
others-stay id how [] others = refl
others-stay id how (r ∷ rs) others =
    ap (λ (b : Bool). cond b (complete_now how r) r ∷ map (completed id how) rs) (other-key id r others.0)
    ∙ ap (λ (xs : List Standing). r ∷ xs) (others-stay id how rs others.1)

-- one request alone is complete
complete-first : (id : RequestId) (how : Complete) (rs : List Standing) → AllDiffer (keys_in rs) → map (completed id how) rs ≡ changed_first (is_id id) (complete_now how) rs
complete-first id how [] differ = refl
complete-first id how (r ∷ rs) differ = go (complete-first id how rs differ.1) (is_id id r) refl
  where
    go : map (completed id how) rs ≡ changed_first (is_id id) (complete_now how) rs → (b : Bool) → is_id id r ≡ b → cond b (complete_now how r) r ∷ map (completed id how) rs ≡ cond b (complete_now how r ∷ rs) (r ∷ changed_first (is_id id) (complete_now how) rs)
    go rest true is = ap (λ (xs : List Standing). complete_now how r ∷ xs) (others-stay id how rs (others-of id r rs differ is))
    go rest false is = ap (λ (xs : List Standing). r ∷ xs) rest

pub complete-at : (id : RequestId) (how : Complete) (rs : List Standing) → AllDiffer (keys_in rs) → map (completed id how) rs ≡ changed (complete_now how) (position (is_id id) rs) rs
complete-at id how rs differ = complete-first id how rs differ ∙ sym (changed-position (is_id id) (complete_now how) rs)

pub id-stays : (b : Bool) (how : Complete) (r : Standing) → (cond b (complete_now how r) r).id ≡ r.id
id-stays true how r = refl
id-stays false how r = refl

pub ids-stay : (id : RequestId) (how : Complete) (rs : List Standing) → map (λ (r : Standing). r.id) (map (completed id how) rs) ≡ map (λ (r : Standing). r.id) rs
ids-stay id how [] = refl
ids-stay id how (r ∷ rs) =
    ap (λ (i : RequestId). i ∷ map (λ (x : Standing). x.id) (map (completed id how) rs)) (id-stays (is_id id r) how r)
    ∙ ap (λ (is : List RequestId). r.id ∷ is) (ids-stay id how rs)

pub keys-stay : (id : RequestId) (how : Complete) (rs : List Standing) → keys_in (map (completed id how) rs) ≡ keys_in rs
keys-stay id how [] = refl
keys-stay id how (r ∷ rs) =
    ap (λ (i : RequestId). i.key ∷ keys_in (map (completed id how) rs)) (id-stays (is_id id r) how r)
    ∙ ap (λ (ks : List ℕ). r.id.key ∷ ks) (keys-stay id how rs)

pub length-stays : (id : RequestId) (how : Complete) (rs : List Standing) → length (map (completed id how) rs) ≡ length rs
length-stays id how [] = refl
length-stays id how (r ∷ rs) = ap suc (length-stays id how rs)

-- one request alone is gone
filter-others : (id : RequestId) (rs : List Standing) → Others id rs → filter (λ (r : Standing). not (is_id id r)) rs ≡ rs
filter-others id [] others = refl
filter-others id (r ∷ rs) others =
    ap (λ (b : Bool). cond (not b) (r ∷ filter (λ (x : Standing). not (is_id id x)) rs) (filter (λ (x : Standing). not (is_id id x)) rs)) (other-key id r others.0)
    ∙ ap (λ (xs : List Standing). r ∷ xs) (filter-others id rs others.1)

gone-first : (id : RequestId) (rs : List Standing) → AllDiffer (keys_in rs) → filter (λ (r : Standing). not (is_id id r)) rs ≡ without_first (is_id id) rs
gone-first id [] differ = refl
gone-first id (r ∷ rs) differ = go (gone-first id rs differ.1) (is_id id r) refl
  where
    go : filter (λ (x : Standing). not (is_id id x)) rs ≡ without_first (is_id id) rs → (b : Bool) → is_id id r ≡ b → cond (not b) (r ∷ filter (λ (x : Standing). not (is_id id x)) rs) (filter (λ (x : Standing). not (is_id id x)) rs) ≡ cond b rs (r ∷ without_first (is_id id) rs)
    go rest true is = filter-others id rs (others-of id r rs differ is)
    go rest false is = ap (λ (xs : List Standing). r ∷ xs) rest

pub gone-at : (id : RequestId) (rs : List Standing) → AllDiffer (keys_in rs) → filter (λ (r : Standing). not (is_id id r)) rs ≡ without (position (is_id id) rs) rs
gone-at id rs differ = gone-first id rs differ ∙ sym (without-position (is_id id) rs)

pub place-of_id : (id : RequestId) (rs : List Standing) → position (is_id id) rs ≡ position (has_id id) (map (λ (r : Standing). r.id) rs)
place-of_id id rs = position-map (λ (r : Standing). r.id) (has_id id) rs

-- the state's request at its place
pub request-there : (b : Book) (id : RequestId) (rs : List Standing) → option_and_then (λ i. slice_get (requests_in b rs) i) (position (is_id id) rs) ≡ option_map (request_in b) (find (is_id id) rs)
request-there b id rs = go (position (is_id id) rs) ∙ ap (option_map (request_in b)) (get-position (is_id id) rs)
  where
    go : (o : Option ℕ) → option_and_then (λ i. slice_get (requests_in b rs) i) o ≡ option_map (request_in b) (option_and_then (λ i. slice_get rs i) o)
    go None = refl
    go (Some i) = slice_get-map (request_in b) rs i

-- ---- what stays

all-filter : {X : Type 0} (P : X → Type 0) (p : X → Bool) (xs : List X) → AllByRecursion P xs → AllByRecursion P (filter p xs)
all-filter P p [] all = tt
all-filter P p (x ∷ xs) all = elim (p x) as (λ b. AllByRecursion P (cond b (x ∷ filter p xs) (filter p xs))) [ true ↦ (all.0, all-filter P p xs all.1) | false ↦ all-filter P p xs all.1 ]

keys-filter : (P : ℕ → Type 0) (p : Standing → Bool) (rs : List Standing) → AllByRecursion P (keys_in rs) → AllByRecursion P (keys_in (filter p rs))
keys-filter P p [] all = tt
keys-filter P p (r ∷ rs) all = elim (p r) as (λ b. AllByRecursion P (keys_in (cond b (r ∷ filter p rs) (filter p rs)))) [ true ↦ (all.0, keys-filter P p rs all.1) | false ↦ keys-filter P p rs all.1 ]

pub differ-filter : (p : Standing → Bool) (rs : List Standing) → AllDiffer (keys_in rs) → AllDiffer (keys_in (filter p rs))
differ-filter p [] differ = tt
differ-filter p (r ∷ rs) differ = elim (p r) as (λ b. AllDiffer (keys_in (cond b (r ∷ filter p rs) (filter p rs)))) [ true ↦ (keys-filter (λ k. (k == r.id.key) ≡ false) p rs differ.0, differ-filter p rs differ.1) | false ↦ differ-filter p rs differ.1 ]

pub length-filter : (p : Standing → Bool) (rs : List Standing) → length (filter p rs) ≤ length rs
length-filter p [] = omega arith
length-filter p (r ∷ rs) =
    let rest = length-filter p rs in
    elim (p r) as (λ b. length (cond b (r ∷ filter p rs) (filter p rs)) ≤ suc (length rs)) [ true ↦ omega (arith, rest) | false ↦ omega (arith, rest) ]

pub each-filter : (p : Standing → Bool) (rs : List Standing) → AllByRecursion IsReceive rs → AllByRecursion IsReceive (filter p rs)
each-filter p rs each = all-filter IsReceive p rs each

not-same : (m n : ℕ) → m ≢ n → (n == m) ≡ false
not-same m n differ = false_from_ne_true (n == m) (λ same. differ (sym (eqb-true n m same)))

differ-push : (key : ℕ) (ks : List ℕ) → AllByRecursion (λ k. k ≢ key) ks → AllDiffer ks → AllDiffer (ks ++ key ∷ [])
differ-push key [] fresh differ = (tt, tt)
differ-push key (k ∷ ks) fresh differ = (All-push (λ m. (m == k) ≡ false) ks key differ.0 (not-same k key fresh.0), differ-push key ks fresh.1 differ.1)

pub differ-more : (r : Standing) (rs : List Standing) → AllByRecursion (λ k. k ≢ r.id.key) (keys_in rs) → AllDiffer (keys_in rs) → AllDiffer (keys_in (rs ++ r ∷ []))
differ-more r rs fresh differ = subst AllDiffer (sym (map_push key_in rs r)) (differ-push r.id.key (keys_in rs) fresh differ)

pub each-complete : (id : RequestId) (a : Ask) (how : Complete) → Receives a (Some how) → (rs : List Standing) → AllDiffer (keys_in rs) → option_map (λ (r : Standing). r.ask) (find (is_id id) rs) ≡ Some a → AllByRecursion IsReceive rs → AllByRecursion IsReceive (map (completed id how) rs)
each-complete id a how may rs differ asks each = subst (AllByRecursion IsReceive) (sym (complete-first id how rs differ)) (go rs asks each)
  where
    go : (xs : List Standing) → option_map (λ (r : Standing). r.ask) (find (is_id id) xs) ≡ Some a → AllByRecursion IsReceive xs → AllByRecursion IsReceive (changed_first (is_id id) (complete_now how) xs)
    go [] asks each = tt
    go (x ∷ xs) asks each =
        elim (is_id id x) as (λ b. option_map (λ (r : Standing). r.ask) (cond b (Some x) (find (is_id id) xs)) ≡ Some a → AllByRecursion IsReceive (cond b (complete_now how x ∷ xs) (x ∷ changed_first (is_id id) (complete_now how) xs)))
        [ true ↦ λ e. let same : x.ask ≡ a = cc in (subst (λ (y : Ask). Receives y (Some how)) (sym same) may, each.1) | false ↦ λ e. (each.0, go xs e each.1) ] asks

-- ---- the slots that were handed

-- an item that is handed is in its slot
pub handed-slot : (a : Ask) (slot : Slot) → slots_in (Some (handed_by a slot)) ≡ slot ∷ []
handed-slot (ask.Message at max) slot = refl
handed-slot (ask.Packet at) slot = refl
handed-slot (ask.Lookup name) slot = refl
handed-slot (ask.Connect channel) slot = refl

pub handed-more : (test : Slot → Bool) (id : RequestId) (slot : Slot) (a : Ask) (rs : List Standing) → AllDiffer (keys_in rs) → option_map (λ (r : Standing). is_none r.complete) (find (is_id id) rs) ≡ Some true → count_by test (handed_slots (map (completed id (handed_by a slot)) rs)) ≡ count_by test (handed_slots rs) + one_if (test slot)
handed-more test id slot a rs differ pending = ap (λ (xs : List Standing). count_by test (handed_slots xs)) (complete-first id (handed_by a slot) rs differ) ∙ go rs pending
  where
    how : Complete
    how = handed_by a slot

    first : (o : Option Complete) (hs : List Slot) → is_none o ≡ true → count_by test (slot ∷ hs) ≡ count_by test (slots_in o ++ hs) + one_if (test slot)
    first None hs e = count-cons test slot hs ∙ omega arith
    first (Some h) hs e = absurd cc

    go : (xs : List Standing) → option_map (λ (r : Standing). is_none r.complete) (find (is_id id) xs) ≡ Some true → count_by test (handed_slots (changed_first (is_id id) (complete_now how) xs)) ≡ count_by test (handed_slots xs) + one_if (test slot)
    go [] e = absurd cc
    go (x ∷ xs) e =
        elim (is_id id x) as (λ b. option_map (λ (r : Standing). is_none r.complete) (cond b (Some x) (find (is_id id) xs)) ≡ Some true → count_by test (handed_slots (cond b (complete_now how x ∷ xs) (x ∷ changed_first (is_id id) (complete_now how) xs))) ≡ count_by test (slots_in x.complete ++ handed_slots xs) + one_if (test slot)) [
          | true ↦ λ h. let none : is_none x.complete ≡ true = cc in ap (λ (ss : List Slot). count_by test (ss ++ handed_slots xs)) (handed-slot a slot) ∙ first x.complete (handed_slots xs) none
          | false ↦ λ h. omega (arith, go xs h, count-append test (slots_in x.complete) (handed_slots (changed_first (is_id id) (complete_now how) xs)), count-append test (slots_in x.complete) (handed_slots xs))
        ] e

-- what the request that ends held
pub handed-less : (test : Slot → Bool) (id : RequestId) (o : Option Complete) (rs : List Standing) → AllDiffer (keys_in rs) → option_map (λ (r : Standing). r.complete) (find (is_id id) rs) ≡ Some o → count_by test (handed_slots (filter (λ (r : Standing). not (is_id id r)) rs)) + count_by test (slots_in o) ≡ count_by test (handed_slots rs)
handed-less test id o rs differ found = ap (λ (xs : List Standing). count_by test (handed_slots xs) + count_by test (slots_in o)) (gone-first id rs differ) ∙ go rs found
  where
    go : (xs : List Standing) → option_map (λ (r : Standing). r.complete) (find (is_id id) xs) ≡ Some o → count_by test (handed_slots (without_first (is_id id) xs)) + count_by test (slots_in o) ≡ count_by test (handed_slots xs)
    go [] e = absurd cc
    go (x ∷ xs) e =
        elim (is_id id x) as (λ b. option_map (λ (r : Standing). r.complete) (cond b (Some x) (find (is_id id) xs)) ≡ Some o → count_by test (handed_slots (cond b xs (x ∷ without_first (is_id id) xs))) + count_by test (slots_in o) ≡ count_by test (slots_in x.complete ++ handed_slots xs)) [
          | true ↦ λ h. let same : x.complete ≡ o = cc in omega (arith, ap (λ (c : Option Complete). count_by test (slots_in c)) same, count-append test (slots_in x.complete) (handed_slots xs))
          | false ↦ λ h. omega (arith, go xs h, count-append test (slots_in x.complete) (handed_slots (without_first (is_id id) xs)), count-append test (slots_in x.complete) (handed_slots xs))
        ] e

pub handed-new : (test : Slot → Bool) (r : Standing) (rs : List Standing) → count_by test (handed_slots (rs ++ r ∷ [])) ≡ count_by test (handed_slots rs) + count_by test (slots_in r.complete)
handed-new test r [] = count-append test (slots_in r.complete) [] ∙ omega arith
handed-new test r (x ∷ rs) = omega (arith, handed-new test r rs, count-append test (slots_in x.complete) (handed_slots (rs ++ r ∷ [])), count-append test (slots_in x.complete) (handed_slots rs))

-- ---- receives that wait

pub none-map : (b : Book) (o : Option Complete) → is_none (option_map (outcome_in b) o) ≡ is_none o
none-map b None = refl
none-map b (Some c) = refl

pub receives-map : (local : Local) (a : Ask) → state.receives_at local (asked_in a) ≡ receives_at local a
receives-map local (ask.Lookup name) = refl
receives-map local (ask.Connect channel) = refl
receives-map local (ask.Message at max) = refl
receives-map local (ask.Packet at) = refl

pub waits-map : (b : Book) (local : Local) (r : Standing) → state.waits_at local (request_in b r) ≡ waits_at local r
waits-map b local r = ap (λ (x : Bool). x && state.receives_at local (asked_in r.ask)) (none-map b r.complete) ∙ ap (λ (x : Bool). is_none r.complete && x) (receives-map local r.ask)

pub waiting-place : (b : Book) (local : Local) (rs : List Standing) → position (state.waits_at local) (requests_in b rs) ≡ position (waits_at local) rs
waiting-place b local rs = sym (position-map (request_in b) (state.waits_at local) rs) ∙ position-same (λ (r : Standing). state.waits_at local (request_in b r)) (waits_at local) (waits-map b local) rs

-- the request that is found is the one with its id
found-differs : (p : Standing → Bool) (id : RequestId) (n : ℕ) (rs : List Standing) → AllByRecursion (λ k. (k == n) ≡ false) (keys_in rs) → option_map (λ (r : Standing). r.id) (find p rs) ≡ Some id → (id.key == n) ≡ false
found-differs p id n [] all found = absurd cc
found-differs p id n (r ∷ rs) all found =
    elim (p r) as (λ b. option_map (λ (x : Standing). x.id) (cond b (Some r) (find p rs)) ≡ Some id → (id.key == n) ≡ false)
    [ true ↦ λ e. let same : r.id ≡ id = cc in subst (λ (i : RequestId). (i.key == n) ≡ false) same all.0 | false ↦ λ e. found-differs p id n rs all.1 e ] found

found-place_from : (p : Standing → Bool) (id : RequestId) (i : ℕ) (rs : List Standing) → AllDiffer (keys_in rs) → option_map (λ (r : Standing). r.id) (find p rs) ≡ Some id → position_from p i rs ≡ position_from (is_id id) i rs
found-place_from p id i [] differ found = refl
found-place_from p id i (r ∷ rs) differ found = go (λ e. found-place_from p id (i + 1) rs differ.1 e) (p r) found
  where
    go : (option_map (λ (x : Standing). x.id) (find p rs) ≡ Some id → position_from p (i + 1) rs ≡ position_from (is_id id) (i + 1) rs) → (b : Bool) → option_map (λ (x : Standing). x.id) (cond b (Some r) (find p rs)) ≡ Some id → cond b (Some i) (position_from p (i + 1) rs) ≡ cond (is_id id r) (Some i) (position_from (is_id id) (i + 1) rs)
    go rest true e =
        let same : r.id ≡ id = cc in
        sym (ap (λ (b : Bool). cond b (Some i) (position_from (is_id id) (i + 1) rs)) (subst (λ (x : RequestId). is_id x r ≡ true) same (itself r)))
    go rest false e =
        let apart : (r.id.key == id.key) ≡ false = false_from_ne_true (r.id.key == id.key) (λ same. eqb-false id.key r.id.key (found-differs p id r.id.key rs differ.0 e) (sym (eqb-true r.id.key id.key same))) in
        rest e
        ∙ sym (ap (λ (b : Bool). cond b (Some i) (position_from (is_id id) (i + 1) rs)) (other-key id r apart))

pub found-place : (p : Standing → Bool) (id : RequestId) (rs : List Standing) → AllDiffer (keys_in rs) → option_map (λ (r : Standing). r.id) (find p rs) ≡ Some id → position p rs ≡ position (is_id id) rs
found-place p id rs differ found = position_from-zero p rs ∙ found-place_from p id 0 rs differ found ∙ sym (position_from-zero (is_id id) rs)

-- a request that stands is a receive
pub found-receives : (p : Standing → Bool) (r : Standing) (rs : List Standing) → AllByRecursion IsReceive rs → find p rs ≡ Some r → IsReceive r
found-receives p r [] each found = absurd cc
found-receives p r (x ∷ rs) each found =
    elim (p x) as (λ b. cond b (Some x) (find p rs) ≡ Some r → IsReceive r)
    [ true ↦ λ e. let same : x ≡ r = cc in subst IsReceive same each.0 | false ↦ λ e. found-receives p r rs each.1 e ] found

-- ---- what waits at an endpoint is a receive there

found-has : (p : Standing → Bool) (r : Standing) (rs : List Standing) → find p rs ≡ Some r → p r ≡ true
found-has p r [] found = absurd cc
found-has p r (x ∷ rs) found =
    elim (p x) as (λ b. p x ≡ b → cond b (Some x) (find p rs) ≡ Some r → p r ≡ true)
    [ true ↦ λ is e. let same : x ≡ r = cc in subst (λ (y : Standing). p y ≡ true) same is | false ↦ λ is e. found-has p r rs e ] refl found

pub only-waits : (q : Requests) (local : Local) (id : RequestId) (a : Ask) → AreReceives q → Some id ≡ option_map (λ (r : Standing). r.id) (find (waits_at local) q.standing) → option_map (λ (r : Standing). r.ask) (request_of q id) ≡ Some a → receives_at local a ≡ true
only-waits q local id a receives oldest asks = go (request_of q id) refl asks
  where
    there : find (waits_at local) q.standing ≡ request_of q id
    there =
        sym (get-position (waits_at local) q.standing)
        ∙ ap (λ (o : Option ℕ). option_and_then (λ i. slice_get q.standing i) o) (found-place (waits_at local) id q.standing receives.differ (sym oldest))
        ∙ get-position (is_id id) q.standing

    go : (o : Option Standing) → request_of q id ≡ o → option_map (λ (r : Standing). r.ask) o ≡ Some a → receives_at local a ≡ true
    go None found e = absurd cc
    go (Some r) found e =
        let same : r.ask ≡ a = cc in
        let waits = found-has (waits_at local) r q.standing (there ∙ found) in
        ap (receives_at local) (sym same) ∙ (and_parts (is_none r.complete) (receives_at local r.ask) waits).1
