-- The items that are looked up, their frames and their counts.
use Rattle.std.proofs.Common.{◌≡◌, ℕ, suc, ◌+◌, ◌*◌, ◌<◌, ◌^◌, Bool, false, cond, not, List, [], ◌∷◌, length, Option, Some, None, refl, sym, ap, subst, ◌∙◌, arith}
use Rattle.std.specs.Prelude.{slice_get, sum_by, IsSome, IsNone, option_and_then, option_map, is_none, is_some, position, nat_lt}
use Rattle.std.specs.List.{AllByRecursion, position_or_len}
use Rattle.std.specs.Option.{option_or}
use Rattle.std.proofs.lemmas.Bool.{le-ltb}
use Rattle.std.proofs.lemmas.Option.{slice_get-map, cond_some, option_and_then_some}
use Rattle.std.proofs.lemmas.List.{length-map}
use Rattle.std.proofs.lemmas.List.Sums.{sum_by-cons}
use Rattle.buffer_book.specs.declared.cell.Resting.{Resting}
use Rattle.buffer_book.specs.declared.cell.Run.{Run}
use Rattle.buffer_book.specs.Book.{Kept, Item, Aside, Shelf, AreFrames, HoldsOnce, kept_on_place, frames_of, item_on, item_as, item_aside, aside_on, place_aside, is_aside, item_of_shelf, if_state, is_state, count_of, last_frame, queued_frames, lent_frames, aside_frames}
use Rattle.buffer_book.specs.Links.{at, walk}
use Rattle.buffer_book.specs.Runs.{Head, Columns, head_as, item_of, items_of, resting_head, aside_of_resting, asides_of, shelf_of_columns, run_of, run_of_item, is_resting, IsOwn, IsRun, IsSound, head_weight, queued_weight, lent_weight, resting_weight, resting_one}
use Rattle.buffer_book.proofs.Walks.{All-each, All-get, length-walk, walk-next}
use Rattle.buffer_book.proofs.Items.{item-as, item-there, image-there, flat-some, held-within, more-fits, aside-fits}

-- ---- each frame is held once

are-frames : (places : List (Option Kept)) (next : List ℕ) (owner : ℕ → ℕ) (key : ℕ) (h : Head) (i : Item) → item_of next h ≡ i → IsRun places next owner key h → AreFrames places owner key i
are-frames places next owner key h i is run = subst (λ j. AreFrames places owner key j) is (record {
  held = All-each (IsOwn places owner key) (λ f. IsSome (kept_on_place places f)) (frames_of (item_of next h)) (λ f o. o.0) run.own;
  own = All-each (IsOwn places owner key) (λ f. owner f ≡ key) (frames_of (item_of next h)) (λ f o. o.1) run.own;
  differ = run.differ;
})

pub holds-once : (peer : ℕ) (c : Columns) (resting : List (Option Resting)) (count : ℕ) → IsSound c resting count → HoldsOnce (shelf_of_columns peer c resting)
holds-once peer c resting count s = record {
  names = length-map c.heads (option_map (item_of c.next)) ∙ s.names;
  asides = length-map resting (option_map (aside_of_resting c.next)) ∙ s.rests;
  numbered = s.numbered;
  owner = s.owner;
  items = λ n i there. let h = image-there (item_of c.next) c.heads n i there in are-frames c.places c.next s.owner (2 * n) h.0 i h.2 (s.runs n h.0 h.1);
  aside = λ l a there. let r = image-there (aside_of_resting c.next) resting l a there in are-frames c.places c.next s.owner (2 * l + 1) (resting_head l r.0) a.item (ap (λ (x : Aside). x.item) r.2) (s.aside l r.0 r.1);
  last = λ l a there. let r = image-there (aside_of_resting c.next) resting l a there in ap (λ (x : Aside). last_frame x.item) (sym r.2) ∙ sym (s.aside l r.0 r.1).last;
  lent = λ l a there. let r = image-there (aside_of_resting c.next) resting l a there in ap (λ (x : Aside). is_some x.item.lent) (sym r.2);
}

-- ---- where an item stands aside

position-len : {X : Type 0} (p : X → Bool) (xs : List X) → position_or_len p xs ≡ length xs → position p xs ≡ None
position-len p xs all =
    let past : nat_lt (length xs) (length xs) ≡ false = le-ltb (length xs) (length xs) (omega arith) in
    rw (all, past) refl

is-resting : (next : List ℕ) (name serial : ℕ) (o : Option Resting) → is_aside name serial (option_map (aside_of_resting next) o) ≡ is_resting name serial o
is-resting next name serial None = refl
is-resting next name serial (Some r) = refl

position-images : (next : List ℕ) (name serial : ℕ) (rs : List (Option Resting)) → position_or_len (is_aside name serial) (asides_of next rs) ≡ position_or_len (is_resting name serial) rs
position-images next name serial [] = refl
position-images next name serial (r ∷ rs) =
    rw (is-resting next name serial r) (ap (λ n. cond (not (is_resting name serial r)) (1 + n) 0) (position-images next name serial rs))

pub position-aside : (next : List ℕ) (name serial : ℕ) (rs : List (Option Resting)) → position (is_aside name serial) (asides_of next rs) ≡ position (is_resting name serial) rs
position-aside next name serial rs =
    let same = position-images next name serial rs in
    let size : length (asides_of next rs) ≡ length rs = length-map rs (option_map (aside_of_resting next)) in
    rw (same, size) refl

none-rest : (name serial : ℕ) (rs : List (Option Resting)) → sum_by resting_one rs ≡ 0 → position_or_len (is_resting name serial) rs ≡ length rs
none-rest name serial [] none = refl
none-rest name serial (None ∷ rs) none =
    let e = sum_by-cons resting_one None rs in
    let rest = none-rest name serial rs (omega (arith, e)) in
    let step : position_or_len (is_resting name serial) (None ∷ rs) ≡ 1 + position_or_len (is_resting name serial) rs = refl in
    omega (arith, step, rest)
none-rest name serial (Some r ∷ rs) none = let e = sum_by-cons resting_one (Some r) rs in absurd (omega (arith, e))

-- nothing is found where nothing stands aside
pub position-none : (next : List ℕ) (name serial : ℕ) (rs : List (Option Resting)) → sum_by resting_one rs ≡ 0 → None ≡ position (is_aside name serial) (asides_of next rs)
position-none next name serial rs none = sym (position-aside next name serial rs ∙ position-len (is_resting name serial) rs (none-rest name serial rs none))

pub no-resting : (rs : List (Option Resting)) → sum_by resting_one rs ≡ 0 → sum_by resting_weight rs ≡ 0
no-resting [] none = refl
no-resting (None ∷ rs) none = let e = sum_by-cons resting_one None rs in let f = sum_by-cons resting_weight None rs in omega (arith, e, f, no-resting rs (omega (arith, e)))
no-resting (Some r ∷ rs) none = let e = sum_by-cons resting_one (Some r) rs in absurd (omega (arith, e))

flat-image : (next : List ℕ) (o : Option (Option Resting)) → option_and_then (λ p. p) (option_map (option_map (aside_of_resting next)) o) ≡ option_map (aside_of_resting next) (option_and_then (λ p. p) o)
flat-image next None = refl
flat-image next (Some o) = refl

-- what stands aside at a place
pub aside-image : (next : List ℕ) (rs : List (Option Resting)) (l : ℕ) → aside_on (asides_of next rs) l ≡ option_map (aside_of_resting next) (option_and_then (λ p. p) (slice_get rs l))
aside-image next rs l = ap (λ (o : Option (Option Aside)). option_and_then (λ p. p) o) (slice_get-map (option_map (aside_of_resting next)) rs l) ∙ flat-image next (slice_get rs l)

-- ---- the item that is found

pub record IsFound (c : Columns) (i : Item) : Type 0 where
  pub run : i.more ≡ walk c.next (length i.more) (at c.next i.first)
  pub held : AllByRecursion (λ f. IsSome (kept_on_place c.places f)) (frames_of i)
  pub fits : length i.more + 1 < 2 ^ 32

found-by : (c : Columns) (owner : ℕ → ℕ) (key : ℕ) (h : Head) (i : Item) → item_of c.next h ≡ i → IsRun c.places c.next owner key h → h.more + 1 < 2 ^ 32 → IsFound c i
found-by c owner key h i is run fits =
    let size = length-walk c.next h.more (at c.next h.first) in
    subst (λ j. IsFound c j) is (record {
      run = rw size refl;
      held = All-each (IsOwn c.places owner key) (λ f. IsSome (kept_on_place c.places f)) (frames_of (item_of c.next h)) (λ f o. o.0) run.own;
      fits = rw size fits;
    })

pub found-named : (c : Columns) (resting : List (Option Resting)) (count name : ℕ) (i : Item) → IsSound c resting count → item_on (items_of c.next c.heads) name ≡ Some i → IsFound c i
found-named c resting count name i s is =
    let h = item-there c.next c.heads name i is in
    found-by c s.owner (2 * name) h.0 i h.2 (s.runs name h.0 h.1) (more-fits c resting count name h.0 s h.1)

pub found-aside : (c : Columns) (resting : List (Option Resting)) (count l : ℕ) (a : Aside) → IsSound c resting count → aside_on (asides_of c.next resting) l ≡ Some a → IsFound c a.item
found-aside c resting count l a s is =
    let r = image-there (aside_of_resting c.next) resting l a (flat-some (slice_get (asides_of c.next resting) l) a is) in
    found-by c s.owner (2 * l + 1) (resting_head l r.0) a.item (ap (λ (x : Aside). x.item) r.2) (s.aside l r.0 r.1) (aside-fits c resting count l r.0 s r.1)

pub or-either : {X : Type 0} (Z : Type 0) (o p : Option X) (x : X) → option_or o p ≡ Some x → (o ≡ Some x → Z) → (p ≡ Some x → Z) → Z
or-either Z None p x is first second = second is
or-either Z (Some y) p x is first second = first is

if-state : (lent : Option ℕ) (j i : Item) → if_state lent j ≡ Some i → j ≡ i
if-state lent j i is = (cond_some (is_state j.lent lent) j i is).1

pub as-on : (items : List (Option Item)) (name : ℕ) (lent : Option ℕ) (i : Item) → item_as items name lent ≡ Some i → item_on items name ≡ Some i
as-on items name lent i is = option_and_then_some (if_state lent) (item_on items name) i is (λ j found is. found ∙ ap (λ (x : Item). Some x) (if-state lent j i is))

map-some : {X Y Z : Type 0} (f : X → Y) (o : Option X) (y : Y) → option_map f o ≡ Some y → ((x : X) → o ≡ Some x → f x ≡ y → Z) → Z
map-some f None y is then = absurd cc
map-some f (Some x) y is then = then x refl cc

pub found : (peer : ℕ) (c : Columns) (resting : List (Option Resting)) (count name : ℕ) (lent : Option ℕ) (i : Item) → IsSound c resting count → item_of_shelf (shelf_of_columns peer c resting) name lent ≡ Some i → IsFound c i
found peer c resting count name lent i s is =
    let items = items_of c.next c.heads in
    let asides = asides_of c.next resting in
    or-either (IsFound c i) (item_as items name lent) (item_aside asides name lent) i is
    (λ here. found-named c resting count name i s (as-on items name lent i here))
    (λ there. map-some (λ (a : Aside). a.item) (option_and_then (aside_on asides) (place_aside asides name lent)) i there (λ a found same.
    option_and_then_some (aside_on asides) (place_aside asides name lent) a found (λ l placed on. subst (λ j. IsFound c j) same (found-aside c resting count l a s on))))

-- ---- the run of an item

run-item : (next : List ℕ) (o : Option Head) → option_map run_of_item (option_map (item_of next) o) ≡ option_map run_of o
run-item next None = refl
run-item next (Some h) = ap (λ n. Some (record { first = h.first; more = n })) (length-walk next h.more (at next h.first))

pub named-run : (next : List ℕ) (heads : List (Option Head)) (name : ℕ) (lent : Option ℕ) → option_map run_of_item (item_as (items_of next heads) name lent) ≡ option_map run_of (head_as heads name lent)
named-run next heads name lent = ap (option_map run_of_item) (item-as next heads name lent) ∙ run-item next (head_as heads name lent)

or-map : {X Y : Type 0} (f : X → Y) (o p : Option X) → option_map f (option_or o p) ≡ option_or (option_map f o) (option_map f p)
or-map f None p = refl
or-map f (Some x) p = refl

-- the run of the item that a name stands for is the run that is found
pub run-here : (s : Shelf) (name : ℕ) (lent : Option ℕ) (r : Run) → option_map run_of_item (item_as s.items name lent) ≡ Some r → Some r ≡ option_map run_of_item (item_of_shelf s name lent)
run-here s name lent r is = sym (or-map run_of_item (item_as s.items name lent) (item_aside s.aside name lent) ∙ ap (λ (o : Option Run). option_or o (option_map run_of_item (item_aside s.aside name lent))) is)

-- where the name stands for no such item, the item is looked for aside
pub run-aside : (s : Shelf) (name : ℕ) (lent : Option ℕ) → option_map run_of_item (item_as s.items name lent) ≡ None → option_map run_of_item (item_of_shelf s name lent) ≡ option_map run_of_item (item_aside s.aside name lent)
run-aside s name lent is = or-map run_of_item (item_as s.items name lent) (item_aside s.aside name lent) ∙ ap (λ (o : Option Run). option_or o (option_map run_of_item (item_aside s.aside name lent))) is

pub run-count : (o : Option Item) (r : Run) → option_map run_of_item o ≡ Some r → Some (r.more + 1) ≡ option_map count_of o
run-count None r is = absurd cc
run-count (Some i) r is =
    let same : length i.more ≡ r.more = cc in
    ap (λ n. Some n) (omega (arith, same))

pub run-some : (o : Option Item) (r : Run) → option_map run_of_item o ≡ Some r → (i : Item) × (o ≡ Some i) × (i.first ≡ r.first) × (length i.more ≡ r.more)
run-some None r is = absurd cc
run-some (Some i) r is = (i, refl, cc, cc)

pub run-none : (o : Option Item) → option_map run_of_item o ≡ None → o ≡ None
run-none None is = refl
run-none (Some i) is = absurd cc

-- ---- its frames

pub walk-frames : (c : Columns) (i : Item) → IsFound c i → frames_of i ≡ walk c.next (suc (length i.more)) i.first
walk-frames c i f = ap (λ (l : List ℕ). i.first ∷ l) f.run

pub frame-within : (c : Columns) (i : Item) (n f : ℕ) → IsFound c i → slice_get (frames_of i) n ≡ Some f → IsSome (kept_on_place c.places f) × (f < length c.places)
frame-within c i n f is frame =
    let held = All-get (λ g. IsSome (kept_on_place c.places g)) (frames_of i) n f is.held frame in
    (held, held-within c.places f held)

pub frame-next : (c : Columns) (i : Item) (n f : ℕ) → IsFound c i → slice_get (frames_of i) n ≡ Some f → n < length i.more → slice_get (frames_of i) (suc n) ≡ Some (at c.next f)
frame-next c i n f is frame lt =
    let whole = walk-frames c i is in
    ap (λ (l : List ℕ). slice_get l (suc n)) whole ∙ walk-next c.next (suc (length i.more)) n i.first f (ap (λ (l : List ℕ). slice_get l n) (sym whole) ∙ frame) (omega arith)

-- ---- how many

pub queued-count : (next : List ℕ) (heads : List (Option Head)) → sum_by queued_frames (items_of next heads) ≡ sum_by queued_weight heads
queued-count next [] = refl
queued-count next (None ∷ hs) =
    let a = sum_by-cons queued_frames None (items_of next hs) in
    let b = sum_by-cons queued_weight None hs in
    omega (arith, a, b, queued-count next hs)
queued-count next (Some h ∷ hs) =
    let a = sum_by-cons queued_frames (Some (item_of next h)) (items_of next hs) in
    let b = sum_by-cons queued_weight (Some h) hs in
    let e : queued_frames (Some (item_of next h)) ≡ queued_weight (Some h) = ap (λ n. cond (is_none h.lent) (suc n) 0) (length-walk next h.more (at next h.first)) in
    omega (arith, a, b, e, queued-count next hs)

pub lent-count : (next : List ℕ) (heads : List (Option Head)) → sum_by lent_frames (items_of next heads) ≡ sum_by lent_weight heads
lent-count next [] = refl
lent-count next (None ∷ hs) =
    let a = sum_by-cons lent_frames None (items_of next hs) in
    let b = sum_by-cons lent_weight None hs in
    omega (arith, a, b, lent-count next hs)
lent-count next (Some h ∷ hs) =
    let a = sum_by-cons lent_frames (Some (item_of next h)) (items_of next hs) in
    let b = sum_by-cons lent_weight (Some h) hs in
    let e : lent_frames (Some (item_of next h)) ≡ lent_weight (Some h) = ap (λ n. cond (is_some h.lent) (suc n) 0) (length-walk next h.more (at next h.first)) in
    omega (arith, a, b, e, lent-count next hs)

pub aside-count : (next : List ℕ) (rs : List (Option Resting)) → sum_by aside_frames (asides_of next rs) ≡ sum_by resting_weight rs
aside-count next [] = refl
aside-count next (None ∷ rs) =
    let a = sum_by-cons aside_frames None (asides_of next rs) in
    let b = sum_by-cons resting_weight None rs in
    omega (arith, a, b, aside-count next rs)
aside-count next (Some r ∷ rs) =
    let a = sum_by-cons aside_frames (Some (aside_of_resting next r)) (asides_of next rs) in
    let b = sum_by-cons resting_weight (Some r) rs in
    let e = length-walk next r.more (at next r.first) in
    omega (arith, a, b, e, aside-count next rs)

pub weights : (heads : List (Option Head)) → sum_by queued_weight heads + sum_by lent_weight heads ≡ sum_by head_weight heads
weights [] = refl
weights (o ∷ hs) =
    let a = sum_by-cons queued_weight o hs in
    let b = sum_by-cons lent_weight o hs in
    let e = sum_by-cons head_weight o hs in
    omega (arith, a, b, e, one o, weights hs)
  where
    one : (o : Option Head) → queued_weight o + lent_weight o ≡ head_weight o
    one None = refl
    one (Some h) = by-state h h.lent refl
      where
        by-state : (h : Head) (lent : Option ℕ) → h.lent ≡ lent → queued_weight (Some h) + lent_weight (Some h) ≡ head_weight (Some h)
        by-state h None is = rw is (omega arith)
        by-state h (Some n) is = rw is (omega arith)

pub not-none : {X : Type 0} (Z : Type 0) (o : Option X) (x : X) → o ≡ Some x → IsNone o → Z
not-none Z None x is none = absurd cc
not-none Z (Some y) x is none = absurd cc
