-- The requests under a list of keys: what a look-up finds, and what a change of one key makes of them.
use Rattle.std.proofs.Common.{◌≡◌, ◌≢◌, ℕ, zero, suc, Bool, true, false, not, eqb, List, [], ◌∷◌, ◌++◌, length, map, filter, find, cond, Option, Some, None, IsSome, option_map, inl, inr, refl, sym, ap, subst, ◌∙◌}
use Rattle.std.specs.List.{AllByRecursion, cons_option}
use Rattle.std.specs.Prelude.{slice_get, option_and_then}
use Rattle.std.proofs.lemmas.Bool.{cases_eq, eq-eqb, ne_eqb, eqb-true}
use Rattle.std.proofs.lemmas.List.Elements.{filter_map-append}
use Rattle.std.proofs.lemmas.Option.{same_Some, cond_some}
use Rattle.mc_base.specs.declared.request.RequestId.{RequestId}
use Rattle.request_set.specs.declared.ask.Complete.{Complete}
use Rattle.request_set.specs.declared.set.Request.{Request}
use Rattle.request_set.specs.Requests.{Standing, is_id, completed}
use Rattle.request_set.specs.InSet.{standing_of, standing_in, Among}
use Rattle.request_set.proofs.Keys.{without}

-- the request of an option under a key, before others
abbrev pub under : ℕ → Option Request → List Standing → List Standing
under key kept rest = cons_option (option_map (standing_of key) kept) rest

-- ---- what a look-up finds

-- the request under the key of an id, where it has its serial
abbrev pub by_serial : RequestId → Option Request → Option Standing
by_serial id None = None
by_serial id (Some r) = cond (eqb r.serial id.serial) (Some (standing_of id.key r)) None

cond-none : (b : Bool) (x : Standing) → cond b (Some x) None ≡ None → b ≡ false
cond-none true x none = absurd cc
cond-none false x none = refl

find-other : (id : RequestId) (key : ℕ) (kept : Option Request) (rest : List Standing) → key ≢ id.key → find (is_id id) (under key kept rest) ≡ find (is_id id) rest
find-other id key None rest differs = refl
find-other id key (Some r) rest differs = rw (ne_eqb key id.key differs) refl

find-gone : (id : RequestId) (key : ℕ) (kept : Option Request) (rest : List Standing) → key ≡ id.key → by_serial id kept ≡ None → find (is_id id) (under key kept rest) ≡ find (is_id id) rest
find-gone id key None rest same none = refl
find-gone id key (Some r) rest same none =
    rw (eq-eqb key id.key same, cond-none (eqb r.serial id.serial) (standing_of id.key r) none) refl

find-here : (id : RequestId) (key : ℕ) (kept : Option Request) (x : Standing) (rest : List Standing) → key ≡ id.key → by_serial id kept ≡ Some x → find (is_id id) (under key kept rest) ≡ Some x
find-here id key None x rest same found = absurd cc
find-here id key (Some r) x rest same found =
    let parts = cond_some (eqb r.serial id.serial) (standing_of id.key r) x found in
    rw (eq-eqb key id.key same, parts.0) (ap (λ k. Some (standing_of k r)) same ∙ ap (λ s. Some s) parts.1)

find-none : (kept : ℕ → Option Request) (id : RequestId) (order : List ℕ) → by_serial id (kept id.key) ≡ None → find (is_id id) (standing_in kept order) ≡ None
find-none kept id [] none = refl
find-none kept id (key ∷ rest) none =
    elim (cases_eq key id.key) [
      | inl same ↦ find-gone id key (kept key) (standing_in kept rest) same (ap (λ k. by_serial id (kept k)) same ∙ none) ∙ find-none kept id rest none
      | inr differs ↦ find-other id key (kept key) (standing_in kept rest) differs ∙ find-none kept id rest none
    ]

find-some : (kept : ℕ → Option Request) (id : RequestId) (x : Standing) (order : List ℕ) → by_serial id (kept id.key) ≡ Some x → Among id.key order → find (is_id id) (standing_in kept order) ≡ Some x
find-some kept id x [] found among = absurd among
find-some kept id x (key ∷ rest) found among =
    elim (cases_eq key id.key) [
      | inl same ↦ find-here id key (kept key) x (standing_in kept rest) same (ap (λ k. by_serial id (kept k)) same ∙ found)
      | inr differs ↦
          find-other id key (kept key) (standing_in kept rest) differs
          ∙ find-some kept id x rest found (elim among [ inl here ↦ absurd (differs here) | inr later ↦ later ])
    ]

some-kept : (id : RequestId) (kept : Option Request) (x : Standing) → by_serial id kept ≡ Some x → IsSome kept
some-kept id None x found = absurd cc
some-kept id (Some r) x found = refl

find-by : (kept : ℕ → Option Request) (id : RequestId) (order : List ℕ) (o : Option Standing) → by_serial id (kept id.key) ≡ o → (IsSome (kept id.key) → Among id.key order) → find (is_id id) (standing_in kept order) ≡ o
find-by kept id order None looked among = find-none kept id order looked
find-by kept id order (Some x) looked among = find-some kept id x order looked (among (some-kept id (kept id.key) x looked))

-- a look-up by key and serial finds the request of an id
pub find-kept : (kept : ℕ → Option Request) (id : RequestId) (order : List ℕ) → (IsSome (kept id.key) → Among id.key order) → find (is_id id) (standing_in kept order) ≡ by_serial id (kept id.key)
find-kept kept id order among = find-by kept id order (by_serial id (kept id.key)) refl among

some-cond : (b : Bool) (x : Standing) → IsSome (cond b (Some x) None) → b ≡ true
some-cond true x found = refl
some-cond false x found = absurd cc

-- what is kept of a request that is found
pub found-kept : (id : RequestId) (kept : Option Request) → IsSome (by_serial id kept) → (r : Request) × (kept ≡ Some r) × (r.serial ≡ id.serial)
found-kept id None found = absurd cc
found-kept id (Some r) found = (r, refl, eqb-true r.serial id.serial (some-cond (eqb r.serial id.serial) (standing_of id.key r) found))

some-none : (kept : Option Request) → IsSome kept → kept ≡ None → ⊥
some-none None some none = cc
some-none (Some r) some none = cc

-- ---- one more

pub standing-same : (old new : ℕ → Option Request) (key : ℕ) (order : List ℕ) → AllByRecursion (λ other. other ≢ key) order → ((other : ℕ) → other ≢ key → new other ≡ old other) → standing_in new order ≡ standing_in old order
standing-same old new key [] others same = refl
standing-same old new key (first ∷ rest) others same =
    rw (same first others.0, standing-same old new key rest others.1 same) refl

pub standing-push : (old new : ℕ → Option Request) (key : ℕ) (r : Request) (order : List ℕ) → AllByRecursion (λ other. other ≢ key) order → ((other : ℕ) → other ≢ key → new other ≡ old other) → new key ≡ Some r → standing_in new (order ++ key ∷ []) ≡ standing_in old order ++ standing_of key r ∷ []
standing-push old new key r order others same changed =
    filter_map-append (λ k. option_map (standing_of k) (new k)) order (key ∷ [])
    ∙ rw (changed, standing-same old new key order others same) refl

-- a key under which nothing is kept is none of those under which something is
pub vacant-others : (kept : ℕ → Option Request) (key : ℕ) (order : List ℕ) → AllByRecursion (λ k. IsSome (kept k)) order → kept key ≡ None → AllByRecursion (λ other. other ≢ key) order
vacant-others kept key [] all vacant = tt
vacant-others kept key (first ∷ rest) all vacant =
    ((λ same. some-none (kept first) all.0 (ap kept same ∙ vacant)), vacant-others kept key rest all.1 vacant)

-- no request has a key under which nothing is kept
fresh-before : (key first : ℕ) (kept : Option Request) (rest : List Standing) → (first ≡ key → kept ≡ None) → AllByRecursion (λ other. other ≢ key) (map (λ r. r.id.key) rest) → AllByRecursion (λ other. other ≢ key) (map (λ r. r.id.key) (under first kept rest))
fresh-before key first None rest vacant others = others
fresh-before key first (Some r) rest vacant others = (λ same. absurd (cc (vacant same)), others)

pub keys-fresh : (kept : ℕ → Option Request) (key : ℕ) (order : List ℕ) → kept key ≡ None → AllByRecursion (λ other. other ≢ key) (map (λ r. r.id.key) (standing_in kept order))
keys-fresh kept key [] vacant = tt
keys-fresh kept key (first ∷ rest) vacant =
    fresh-before key first (kept first) (standing_in kept rest) (λ same. ap kept same ∙ vacant) (keys-fresh kept key rest vacant)

-- ---- one less

drop-here : (id : RequestId) (key : ℕ) (kept : Option Request) (r : Request) (rest : List Standing) → key ≡ id.key → kept ≡ Some r → r.serial ≡ id.serial → filter (λ s. not (is_id id s)) (under key kept rest) ≡ filter (λ s. not (is_id id s)) rest
drop-here id key None r rest same is serial = refl
drop-here id key (Some x) r rest same is serial =
    let own : x.serial ≡ id.serial = ap (λ (y : Request). y.serial) (same_Some x r is) ∙ serial in
    rw (eq-eqb key id.key same, eq-eqb x.serial id.serial own) refl

keep-other : (id : RequestId) (key : ℕ) (kept : Option Request) (rest : List Standing) → key ≢ id.key → filter (λ s. not (is_id id s)) (under key kept rest) ≡ under key kept (filter (λ s. not (is_id id s)) rest)
keep-other id key None rest differs = refl
keep-other id key (Some x) rest differs = rw (ne_eqb key id.key differs) refl

pub standing-without : (old new : ℕ → Option Request) (id : RequestId) (r : Request) (order : List ℕ) → old id.key ≡ Some r → r.serial ≡ id.serial → ((other : ℕ) → other ≢ id.key → new other ≡ old other) → standing_in new (without id.key order) ≡ filter (λ s. not (is_id id s)) (standing_in old order)
standing-without old new id r [] is serial others = refl
standing-without old new id r (key ∷ rest) is serial others =
    elim (cases_eq key id.key) [
      | inl same ↦
          rw (eq-eqb key id.key same) (standing-without old new id r rest is serial others)
          ∙ sym (drop-here id key (old key) r (standing_in old rest) same (ap old same ∙ is) serial)
      | inr differs ↦
          rw (ne_eqb key id.key differs, others key differs) (ap (under key (old key)) (standing-without old new id r rest is serial others))
          ∙ sym (keep-other id key (old key) (standing_in old rest) differs)
    ]

-- ---- one changed

change-here : (id : RequestId) (how : Complete) (key : ℕ) (kept kept' : Option Request) (r : Request) (rest : List Standing) → key ≡ id.key → kept ≡ Some r → r.serial ≡ id.serial → kept' ≡ Some (record r { complete = Some how }) → under key kept' (map (completed id how) rest) ≡ map (completed id how) (under key kept rest)
change-here id how key kept kept' r rest same is serial changed =
    rw (is, changed, eq-eqb key id.key same, eq-eqb r.serial id.serial serial) refl

change-other : (id : RequestId) (how : Complete) (key : ℕ) (kept : Option Request) (rest : List Standing) → key ≢ id.key → under key kept (map (completed id how) rest) ≡ map (completed id how) (under key kept rest)
change-other id how key None rest differs = refl
change-other id how key (Some x) rest differs = rw (ne_eqb key id.key differs) refl

pub standing-changed : (old new : ℕ → Option Request) (id : RequestId) (how : Complete) (r : Request) (order : List ℕ) → old id.key ≡ Some r → r.serial ≡ id.serial → new id.key ≡ Some (record r { complete = Some how }) → ((other : ℕ) → other ≢ id.key → new other ≡ old other) → standing_in new order ≡ map (completed id how) (standing_in old order)
standing-changed old new id how r [] is serial changed others = refl
standing-changed old new id how r (key ∷ rest) is serial changed others =
    let later = standing-changed old new id how r rest is serial changed others in
    elim (cases_eq key id.key) [
      | inl same ↦
          ap (under key (new key)) later
          ∙ change-here id how key (old key) (new key) r (standing_in old rest) same (ap old same ∙ is) serial (ap new same ∙ changed)
      | inr differs ↦
          ap (under key (new key)) later
          ∙ rw (others key differs) (change-other id how key (old key) (standing_in old rest) differs)
    ]

-- ---- how many there are, and which stands at a place

length-under : (key : ℕ) (kept : Option Request) (rest : List Standing) → IsSome kept → length (under key kept rest) ≡ suc (length rest)
length-under key None rest some = absurd cc
length-under key (Some r) rest some = refl

pub length-standing : (kept : ℕ → Option Request) (order : List ℕ) → AllByRecursion (λ key. IsSome (kept key)) order → length (standing_in kept order) ≡ length order
length-standing kept [] all = refl
length-standing kept (key ∷ rest) all = length-under key (kept key) (standing_in kept rest) all.0 ∙ ap suc (length-standing kept rest all.1)

get-first : (key : ℕ) (kept : Option Request) (rest : List Standing) → IsSome kept → slice_get (under key kept rest) zero ≡ option_map (standing_of key) kept
get-first key None rest some = absurd cc
get-first key (Some r) rest some = refl

get-later : (key : ℕ) (kept : Option Request) (rest : List Standing) (at : ℕ) → IsSome kept → slice_get (under key kept rest) (suc at) ≡ slice_get rest at
get-later key None rest at some = absurd cc
get-later key (Some r) rest at some = refl

pub get-standing : (kept : ℕ → Option Request) (order : List ℕ) (at : ℕ) → AllByRecursion (λ key. IsSome (kept key)) order → slice_get (standing_in kept order) at ≡ option_and_then (λ key. option_map (standing_of key) (kept key)) (slice_get order at)
get-standing kept [] at all = refl
get-standing kept (key ∷ rest) zero all = get-first key (kept key) (standing_in kept rest) all.0
get-standing kept (key ∷ rest) (suc at) all = get-later key (kept key) (standing_in kept rest) at all.0 ∙ get-standing kept rest at all.1

-- ---- which keys keep something

pub occupied-without : (old new : ℕ → Option Request) (key : ℕ) (order : List ℕ) → AllByRecursion (λ k. IsSome (old k)) order → ((other : ℕ) → other ≢ key → new other ≡ old other) → AllByRecursion (λ other. other ≢ key) order → AllByRecursion (λ k. IsSome (new k)) order
occupied-without old new key [] all others apart = tt
occupied-without old new key (first ∷ rest) all others apart =
    (rw (others first apart.0) all.0, occupied-without old new key rest all.1 others apart.1)

-- ---- the id of each request finds it

own-under : (kept : ℕ → Option Request) (key : ℕ) (o : Option Request) (rest : List Standing) → kept key ≡ o → AllByRecursion (λ x. by_serial x.id (kept x.id.key) ≡ Some x) rest → AllByRecursion (λ x. by_serial x.id (kept x.id.key) ≡ Some x) (under key o rest)
own-under kept key None rest is all = all
own-under kept key (Some r) rest is all =
    let looked : by_serial (standing_of key r).id (kept key) ≡ by_serial (standing_of key r).id (Some r) = ap (by_serial (standing_of key r).id) is in
    (looked ∙ rw (eq-eqb r.serial r.serial refl) refl, all)

own-ids : (kept : ℕ → Option Request) (order : List ℕ) → AllByRecursion (λ x. by_serial x.id (kept x.id.key) ≡ Some x) (standing_in kept order)
own-ids kept [] = tt
own-ids kept (key ∷ rest) = own-under kept key (kept key) (standing_in kept rest) refl (own-ids kept rest)

find-All : (P : Standing → Type 0) (p : Standing → Bool) (x : Standing) (xs : List Standing) → find p xs ≡ Some x → AllByRecursion P xs → P x × (p x ≡ true)
find-All P p x [] found all = absurd cc
find-All P p x (y ∷ ys) found all =
    elim (p y) as (λ b. p y ≡ b → cond b (Some y) (find p ys) ≡ Some x → P x × (p x ≡ true))
    [ true ↦ λ at here. (subst P (same_Some y x here) all.0, ap p (sym (same_Some y x here)) ∙ at) | false ↦ λ at later. find-All P p x ys later all.1 ] refl found

slice_get-All : (P : Standing → Type 0) (x : Standing) (xs : List Standing) (at : ℕ) → slice_get xs at ≡ Some x → AllByRecursion P xs → P x
slice_get-All P x [] at found all = absurd cc
slice_get-All P x (y ∷ ys) zero found all = subst P (same_Some y x found) all.0
slice_get-All P x (y ∷ ys) (suc at) found all = slice_get-All P x ys at found all.1

-- what is found by a test is found by its id
pub found-by-id : (kept : ℕ → Option Request) (order : List ℕ) (p : Standing → Bool) (x : Standing) → ((key : ℕ) → IsSome (kept key) → Among key order) → find p (standing_in kept order) ≡ Some x → (find (is_id x.id) (standing_in kept order) ≡ Some x) × (p x ≡ true)
found-by-id kept order p x ordered found =
    let own = find-All (λ y. by_serial y.id (kept y.id.key) ≡ Some y) p x (standing_in kept order) found (own-ids kept order) in
    (find-kept kept x.id order (ordered x.id.key) ∙ own.0, own.1)

-- and so is what stands at a place
pub listed-by-id : (kept : ℕ → Option Request) (order : List ℕ) (at : ℕ) (x : Standing) → ((key : ℕ) → IsSome (kept key) → Among key order) → slice_get (standing_in kept order) at ≡ Some x → find (is_id x.id) (standing_in kept order) ≡ Some x
listed-by-id kept order at x ordered found =
    let own = slice_get-All (λ y. by_serial y.id (kept y.id.key) ≡ Some y) x (standing_in kept order) at found (own-ids kept order) in
    find-kept kept x.id order (ordered x.id.key) ∙ own
