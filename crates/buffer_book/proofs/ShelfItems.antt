-- The shelf that the cells stand for, after each change.
use Rattle.std.proofs.Common.{◌≡◌, ◌≢◌, ℕ, zero, suc, ◌<◌, List, [], ◌∷◌, length, Option, Some, None, refl, sym, ap, subst, ◌∙◌, arith, replicate, get_or}
use Rattle.std.specs.Prelude.{slice_get, slice_set, IsSome, IsNone, option_and_then, option_map}
use Rattle.std.specs.Option.{option_or}
use Rattle.std.proofs.lemmas.List.{length-map}
use Rattle.buffer_book.proofs.Walks.{length-walk}
use Rattle.buffer_book.specs.declared.cell.Cell.{Cell}
use Rattle.buffer_book.specs.declared.cell.State.{State}
use Rattle.buffer_book.specs.declared.cell.State.TheVariants as state
use Rattle.buffer_book.specs.declared.cell.Resting.{Resting}
use Rattle.buffer_book.specs.declared.cell.Run.{Run}
use Rattle.buffer_book.specs.Book.{Kept, Item, Aside, Shelf, empty_shelf, item_on, item_as, item_aside, item_of_shelf, aside_on, place_aside, aside_of, moved_aside, begun, joined, lent_on, taken, taken_named, taken_named_of, taken_aside, taken_aside_of, left_aside, left_of, last_frame, if_state}
use Rattle.buffer_book.specs.Links.{at, walk}
use Rattle.buffer_book.specs.Runs.{Head, Columns, columns_of, empty_columns, state_head, with_held, with_head, named, lent_head, shortened, rested, head_on, head_as, link_on, run_of, item_of, items_of, aside_of_resting, asides_of, shelf_of_columns, run_of_item, IsSound}
use Rattle.buffer_book.proofs.Sets.{map-set}
use Rattle.buffer_book.proofs.CellWrites.{head-read, head-within}
use Rattle.buffer_book.proofs.Items.{item-head, item-there, flat-some, items-put, items-join, asides-join, items-lend, joined_columns, images-empty}
use Rattle.buffer_book.proofs.TakenItems.{items-take}
use Rattle.buffer_book.proofs.Found.{aside-image, named-run, run-some, as-on}

shelf-same : (peer : ℕ) (places : List (Option Kept)) (items items' : List (Option Item)) (aside aside' : List (Option Aside)) → items ≡ items' → aside ≡ aside' → ◌≡◌ {A = Shelf} (record { peer = peer; places = places; items = items; aside = aside }) (record { peer = peer; places = places; items = items'; aside = aside' })
shelf-same peer places items items' aside aside' i a = cc

pub shelf-empty : (peer size : ℕ) → shelf_of_columns peer (empty_columns size) (replicate size None) ≡ empty_shelf (peer, size)
shelf-empty peer size = shelf-same peer _ _ _ _ _ (images-empty (item_of (replicate size 0)) size) (images-empty (aside_of_resting (replicate size 0)) size)

pub shelf-begun : (peer : ℕ) (c : Columns) (resting : List (Option Resting)) (x : ℕ) (k : Kept) → shelf_of_columns peer (with_head (with_held c x (Some k)) x (Some (named x))) resting ≡ begun x k (shelf_of_columns peer c resting)
shelf-begun peer c resting x k = shelf-same peer _ _ _ _ _ (items-put c.next c.heads x) refl

pub shelf-joined : (peer : ℕ) (c : Columns) (resting : List (Option Resting)) (count name x : ℕ) (k : Kept) (h : Head) → IsSound c resting count → slice_get c.heads name ≡ Some (Some h) → shelf_of_columns peer (joined_columns c name x k h) resting ≡ joined name x k (shelf_of_columns peer c resting)
shelf-joined peer c resting count name x k h s there = shelf-same peer _ _ _ _ _ (items-join c resting count name x h s there) (asides-join c resting count name x h s there)

pub shelf-lent : (peer : ℕ) (c : Columns) (resting : List (Option Resting)) (name serial : ℕ) (h : Head) → slice_get c.heads name ≡ Some (Some h) → shelf_of_columns peer (with_head c name (Some (lent_head serial h))) resting ≡ lent_on name serial (shelf_of_columns peer c resting)
shelf-lent peer c resting name serial h there = shelf-same peer _ _ _ _ _ (items-lend c.next c.heads name serial h there) refl

-- the item that a name stands for
pub known-item : (c : Columns) (name : ℕ) (h : Head) → slice_get c.heads name ≡ Some (Some h) → item_on (items_of c.next c.heads) name ≡ Some (item_of c.next h)
known-item c name h there = item-head c.next c.heads name ∙ ap (λ (o : Option (Option Head)). option_map (item_of c.next) (option_and_then (λ g. g) o)) there

pub shelf-taken : (peer : ℕ) (c : Columns) (resting : List (Option Resting)) (name : ℕ) (h : Head) → slice_get c.heads name ≡ Some (Some h) → shelf_of_columns peer (with_head (with_held c h.first None) name (shortened (at c.next h.first) h)) resting ≡ taken_named name (shelf_of_columns peer c resting)
shelf-taken peer c resting name h there =
    let s = shelf_of_columns peer c resting in
    shelf-same peer _ _ _ _ _ (items-take c.next c.heads name h) refl
    ∙ sym (ap (λ (o : Option Item). taken_named_of name o s) (known-item c name h there))

-- ---- a lent item moves aside

lent-map : (next : List ℕ) (o : Option Head) → option_map (λ (i : Item). i.lent) (option_map (item_of next) o) ≡ option_map (λ (h : Head). h.lent) o
lent-map next None = refl
lent-map next (Some h) = refl

lent-some : (o : Option Head) (l : Option ℕ) → option_map (λ (h : Head). h.lent) o ≡ Some l → IsSome o
lent-some None l is = absurd cc
lent-some (Some h) l is = refl

abbrev pub lent_from_cell : Cell → ℕ → Head
lent_from_cell x serial = record { first = x.first; last = x.last; more = x.more; lent = Some serial }

state-lent : (s : State) (first last more serial : ℕ) → option_map (λ (h : Head). h.lent) (state_head s first last more) ≡ Some (Some serial) → state_head s first last more ≡ Some (record { first = first; last = last; more = more; lent = Some serial })
state-lent state.Free first last more serial is = absurd cc
state-lent state.Queued first last more serial is = absurd cc
state-lent (state.Lent n) first last more serial is = let same : n ≡ serial = cc in ap (λ m. Some (record { first = first; last = last; more = more; lent = Some m })) same

-- the head of the item that is lent
pub lent-there : (next : List ℕ) (cs : List Cell) (name serial : ℕ) (x : Cell) → x ≡ get_or cs name x → option_map (λ (i : Item). i.lent) (item_on (items_of next (columns_of cs).heads) name) ≡ Some (Some serial) → slice_get (columns_of cs).heads name ≡ Some (Some (lent_from_cell x serial))
lent-there next cs name serial x read is =
    let o = head_on (columns_of cs).heads name in
    let state : option_map (λ (h : Head). h.lent) o ≡ Some (Some serial) = sym (ap (option_map (λ (i : Item). i.lent)) (item-head next (columns_of cs).heads name) ∙ lent-map next o) ∙ is in
    let lt = head-within cs name (lent-some o (Some serial) state) in
    let here = head-read cs name x lt read in
    flat-some (slice_get (columns_of cs).heads name) (lent_from_cell x serial) (here ∙ state-lent x.state x.first x.last x.more serial (sym (ap (option_map (λ (h : Head). h.lent)) here) ∙ state))

-- what the state of a cell says of its item
pub lent-item : (next : List ℕ) (cs : List Cell) (name serial : ℕ) (x : Cell) → name < length cs → x ≡ get_or cs name x → x.state ≡ state.Lent serial → option_map (λ (i : Item). i.lent) (item_on (items_of next (columns_of cs).heads) name) ≡ Some (Some serial)
lent-item next cs name serial x lt read is =
    ap (option_map (λ (i : Item). i.lent)) (item-head next (columns_of cs).heads name)
    ∙ lent-map next (head_on (columns_of cs).heads name)
    ∙ ap (option_map (λ (h : Head). h.lent)) (head-read cs name x lt read)
    ∙ ap (λ (s : State). option_map (λ (h : Head). h.lent) (state_head s x.first x.last x.more)) is

unlent-by : (next : List ℕ) (s : State) (first last more : ℕ) → ((serial : ℕ) → s ≢ state.Lent serial) → IsNone (option_and_then (if_state None) (option_map (item_of next) (state_head s first last more))) → IsNone (option_map (item_of next) (state_head s first last more))
unlent-by next state.Free first last more other none = refl
unlent-by next state.Queued first last more other none = absurd cc
unlent-by next (state.Lent n) first last more other none = absurd (other n refl)

-- a name that stands for no queued item nor a lent one is free
pub unlent-free : (next : List ℕ) (cs : List Cell) (name : ℕ) (x : Cell) → name < length cs → x ≡ get_or cs name x → ((serial : ℕ) → x.state ≢ state.Lent serial) → IsNone (item_as (items_of next (columns_of cs).heads) name None) → IsNone (item_on (items_of next (columns_of cs).heads) name)
unlent-free next cs name x lt read other none =
    let is : item_on (items_of next (columns_of cs).heads) name ≡ option_map (item_of next) (state_head x.state x.first x.last x.more) = item-head next (columns_of cs).heads name ∙ ap (option_map (item_of next)) (head-read cs name x lt read) in
    subst (λ (o : Option Item). IsNone o) (sym is) (unlent-by next x.state x.first x.last x.more other (subst (λ (o : Option Item). IsNone (option_and_then (if_state None) o)) is none))

-- where nothing is moved aside, the shelf stays
pub aside-none : (name : ℕ) (s : Shelf) → IsNone (item_on s.items name) → moved_aside name s ≡ s
aside-none name s none = by-item (item_on s.items name) none
  where
    by-item : (o : Option Item) → IsNone o → aside_of name o s ≡ s
    by-item None none = refl
    by-item (Some i) none = absurd cc

pub aside-places : (name : ℕ) (s : Shelf) → (moved_aside name s).places ≡ s.places
aside-places name s = by-item (item_on s.items name)
  where
    by-item : (o : Option Item) → (aside_of name o s).places ≡ s.places
    by-item None = refl
    by-item (Some i) = refl

-- the name of what is moved aside is free
pub aside-frees : (name : ℕ) (s : Shelf) → IsNone (item_on (moved_aside name s).items name)
aside-frees name s = by-item (item_on s.items name) refl
  where
    set-none : (xs : List (Option Item)) (i : ℕ) → IsNone (option_and_then (λ o. o) (slice_get (slice_set xs i None) i))
    set-none [] i = refl
    set-none (x ∷ xs) zero = refl
    set-none (x ∷ xs) (suc i) = set-none xs i

    by-item : (o : Option Item) → item_on s.items name ≡ o → IsNone (item_on (aside_of name o s).items name)
    by-item None is = rw is refl
    by-item (Some i) is = set-none s.items name

pub shelf-aside : (peer : ℕ) (c : Columns) (resting : List (Option Resting)) (count name serial first last more : ℕ) → IsSound c resting count → slice_get c.heads name ≡ Some (Some (record { first = first; last = last; more = more; lent = Some serial })) → shelf_of_columns peer (with_head c name None) (slice_set resting last (Some (record { name = name; first = first; more = more; serial = serial }))) ≡ moved_aside name (shelf_of_columns peer c resting)
shelf-aside peer c resting count name serial first last more s there =
    let shelf = shelf_of_columns peer c resting in
    let h : Head = record { first = first; last = last; more = more; lent = Some serial } in
    let r : Resting = record { name = name; first = first; more = more; serial = serial } in
    let ends : last ≡ last_frame (item_of c.next h) = (s.runs name h there).last in
    shelf-same peer _ _ _ _ _ (map-set (option_map (item_of c.next)) c.heads name None)
    (map-set (option_map (aside_of_resting c.next)) resting last (Some r) ∙ ap (λ l. slice_set (asides_of c.next resting) l (Some (aside_of_resting c.next r))) ends)
    ∙ sym (ap (λ (o : Option Item). aside_of name o shelf) (known-item c name h there))

-- ---- the first frame of an item aside

pub known-aside : (c : Columns) (resting : List (Option Resting)) (l : ℕ) (r : Resting) → slice_get resting l ≡ Some (Some r) → aside_on (asides_of c.next resting) l ≡ Some (aside_of_resting c.next r)
known-aside c resting l r there = aside-image c.next resting l ∙ ap (λ (o : Option (Option Resting)). option_map (aside_of_resting c.next) (option_and_then (λ p. p) o)) there

rested-aside : (next : List ℕ) (r : Resting) (more : ℕ) → option_map (aside_of_resting next) (rested (at next r.first) r more) ≡ left_aside r.name (left_of (Some r.serial) (walk next more (at next r.first)))
rested-aside next r zero = refl
rested-aside next r (suc m) = refl

pub shelf-rested : (peer : ℕ) (c : Columns) (resting : List (Option Resting)) (l : ℕ) (r : Resting) → slice_get resting l ≡ Some (Some r) → shelf_of_columns peer (with_held c r.first None) (slice_set resting l (rested (at c.next r.first) r r.more)) ≡ taken_aside (Some l) (shelf_of_columns peer c resting)
shelf-rested peer c resting l r there =
    let s = shelf_of_columns peer c resting in
    shelf-same peer _ _ _ _ _ refl
    (map-set (option_map (aside_of_resting c.next)) resting l (rested (at c.next r.first) r r.more) ∙ ap (λ (o : Option Aside). slice_set (asides_of c.next resting) l o) (rested-aside c.next r r.more))
    ∙ sym (ap (λ (o : Option Aside). taken_aside_of l o s) (known-aside c resting l r there))

-- ---- the item of a run

-- the head of the item that a name stands for, from its run
pub run-head : (c : Columns) (name : ℕ) (r : Run) → option_map run_of_item (item_on (items_of c.next c.heads) name) ≡ Some r → (h : Head) × (slice_get c.heads name ≡ Some (Some h)) × (h.first ≡ r.first)
run-head c name r is = by-item c name r (item_on (items_of c.next c.heads) name) refl is
  where
    by-item : (c : Columns) (name : ℕ) (r : Run) (o : Option Item) → item_on (items_of c.next c.heads) name ≡ o → option_map run_of_item o ≡ Some r → (h : Head) × (slice_get c.heads name ≡ Some (Some h)) × (h.first ≡ r.first)
    by-item c name r None there is = absurd cc
    by-item c name r (Some i) there is =
        let h = item-there c.next c.heads name i there in
        let first : i.first ≡ r.first = cc in
        (h.0, h.1, ap (λ (j : Item). j.first) h.2 ∙ first)

pub taken-here : (s : Shelf) (name : ℕ) (lent : Option ℕ) → IsSome (item_as s.items name lent) → taken name lent s ≡ taken_named name s
taken-here s name lent is = rw is refl

pub taken-there : (s : Shelf) (name : ℕ) (lent : Option ℕ) → item_as s.items name lent ≡ None → taken name lent s ≡ taken_aside (place_aside s.aside name lent) s
taken-there s name lent is = rw is refl

pub here-item : (s : Shelf) (name : ℕ) (lent : Option ℕ) (i : Item) → item_as s.items name lent ≡ Some i → item_of_shelf s name lent ≡ Some i
here-item s name lent i is = ap (λ (o : Option Item). option_or o (item_aside s.aside name lent)) is

pub there-item : (s : Shelf) (name : ℕ) (lent : Option ℕ) → item_as s.items name lent ≡ None → item_of_shelf s name lent ≡ item_aside s.aside name lent
there-item s name lent is = ap (λ (o : Option Item). option_or o (item_aside s.aside name lent)) is

-- the head of an item that is there
pub some-head : (c : Columns) (name : ℕ) → IsSome (item_on (items_of c.next c.heads) name) → (h : Head) × (slice_get c.heads name ≡ Some (Some h))
some-head c name is = by-item c name (item_on (items_of c.next c.heads) name) refl is
  where
    by-item : (c : Columns) (name : ℕ) (o : Option Item) → item_on (items_of c.next c.heads) name ≡ o → IsSome o → (h : Head) × (slice_get c.heads name ≡ Some (Some h))
    by-item c name None there is = absurd cc
    by-item c name (Some i) there is = let h = item-there c.next c.heads name i there in (h.0, h.1)

pub known-head : (c : Columns) (name : ℕ) (h : Head) → slice_get c.heads name ≡ Some (Some h) → head_on c.heads name ≡ Some h
known-head c name h there = ap (λ (o : Option (Option Head)). option_and_then (λ p. p) o) there

-- the item that is found aside
pub found-aside : (s : Shelf) (name : ℕ) (lent : Option ℕ) (place : ℕ) (a : Aside) → Some place ≡ place_aside s.aside name lent → aside_on s.aside place ≡ Some a → item_aside s.aside name lent ≡ Some a.item
found-aside s name lent place a placed on =
    ap (λ (o : Option ℕ). option_map (λ (x : Aside). x.item) (option_and_then (aside_on s.aside) o)) (sym placed)
    ∙ ap (option_map (λ (x : Aside). x.item)) on

-- ---- what stands aside, by its place

pub within-aside : (peer : ℕ) (c : Columns) (rs : List (Option Resting)) (s : Shelf) (l : ℕ) → shelf_of_columns peer c rs ≡ s → l < length s.aside → l < length rs
within-aside peer c rs s l is lt =
    let same = ap (λ (x : Shelf). length x.aside) is in
    let size = length-map rs (option_map (aside_of_resting c.next)) in
    omega (arith, same, size, lt)

pub aside-at : (peer : ℕ) (c : Columns) (rs : List (Option Resting)) (s : Shelf) (l : ℕ) (x : Option Resting) → shelf_of_columns peer c rs ≡ s → slice_get rs l ≡ Some x → aside_on s.aside l ≡ option_map (aside_of_resting c.next) x
aside-at peer c rs s l x is there =
    ap (λ (t : Shelf). aside_on t.aside l) (sym is)
    ∙ aside-image c.next rs l
    ∙ ap (λ (o : Option (Option Resting)). option_map (aside_of_resting c.next) (option_and_then (λ p. p) o)) there

-- what is found aside, by its place
pub aside-by : (s : Shelf) (name : ℕ) (lent o : Option ℕ) → o ≡ place_aside s.aside name lent → item_aside s.aside name lent ≡ option_map (λ (a : Aside). a.item) (option_and_then (aside_on s.aside) o)
aside-by s name lent o placed = ap (λ (p : Option ℕ). option_map (λ (a : Aside). a.item) (option_and_then (aside_on s.aside) p)) (sym placed)

pub run-resting : (next : List ℕ) (r : Resting) → Some (run_of_item (aside_of_resting next r).item) ≡ Some (record { first = r.first; more = r.more })
run-resting next r = ap (λ n. Some (record { first = r.first; more = n })) (length-walk next r.more (at next r.first))

-- ---- the run that a name stands for

-- as it is read in the cells
pub named-as : (peer : ℕ) (cs : List Cell) (rs : List (Option Resting)) (s : Shelf) (l : List Cell) (name : ℕ) (lent : Option ℕ) (r : Option Run) → shelf_of_columns peer (columns_of cs) rs ≡ s → l ≡ cs → r ≡ option_map run_of (head_as (columns_of l).heads name lent) → option_map run_of_item (item_as s.items name lent) ≡ r
named-as peer cs rs s l name lent r is same read =
    ap (λ (x : Shelf). option_map run_of_item (item_as x.items name lent)) (sym is)
    ∙ named-run (columns_of cs).next (columns_of cs).heads name lent
    ∙ ap (λ (x : List Cell). option_map run_of (head_as (columns_of x).heads name lent)) (sym same)
    ∙ sym read

pub record IsHere (s : Shelf) (name : ℕ) (lent : Option ℕ) (r : Run) : Type 0 where
  pub item : Item
  pub stands : IsSome (item_as s.items name lent)
  pub found : item_of_shelf s name lent ≡ Some item
  pub same : item_on s.items name ≡ item_of_shelf s name lent
  pub run : option_map run_of_item (item_on s.items name) ≡ Some r

pub is-here : (s : Shelf) (name : ℕ) (lent : Option ℕ) (r : Run) → option_map run_of_item (item_as s.items name lent) ≡ Some r → IsHere s name lent r
is-here s name lent r is =
    let i = run-some (item_as s.items name lent) r is in
    let on = as-on s.items name lent i.0 i.1 in
    let here = here-item s name lent i.0 i.1 in
    record {
      item = i.0;
      stands = subst (λ (o : Option Item). IsSome o) (sym i.1) refl;
      found = here;
      same = on ∙ sym here;
      run = ap (option_map run_of_item) (on ∙ sym i.1) ∙ is;
    }

-- the columns after the first frame is taken
pub taken-columns : (c k l : Columns) (name n next : ℕ) (h : Head) → l ≡ with_head k name (option_and_then (shortened next) (head_on k.heads name)) → k ≡ with_held c n None → next ≡ link_on c n → h.first ≡ n → slice_get c.heads name ≡ Some (Some h) → l ≡ with_head (with_held c h.first None) name (shortened (at c.next h.first) h)
taken-columns c k l name n next h last held link first there =
    last
    ∙ ap (λ (x : Columns). with_head x name (option_and_then (shortened next) (head_on x.heads name))) held
    ∙ ap (λ (m : ℕ). with_head (with_held c n None) name (option_and_then (shortened m) (head_on c.heads name))) link
    ∙ ap (λ (m : ℕ). with_head (with_held c m None) name (option_and_then (shortened (at c.next m)) (head_on c.heads name))) (sym first)
    ∙ ap (λ (o : Option Head). with_head (with_held c h.first None) name (option_and_then (shortened (at c.next h.first)) o)) (known-head c name h there)
