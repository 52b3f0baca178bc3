-- What each change leaves at each place and each name.
use Rattle.std.proofs.Common.{◌≡◌, ◌≢◌, ℕ, Bool, true, false, cond, List, [], ◌∷◌, map, Option, Some, None, refl, sym, ap, ◌∙◌}
use Rattle.std.specs.Prelude.{slice_get, slice_set, option_and_then, option_map, find, ◌==◌, is_some}
use Rattle.std.specs.Option.{option_or}
use Rattle.std.proofs.lemmas.Bool.{eqb-true, eqb-false, eq-eqb, ne_eqb}
use Rattle.std.proofs.lemmas.Option.{option_and_then_some}
use Rattle.mc_base.specs.declared.request.Slot.{Slot}
use Rattle.mc_base.specs.declared.request.PacketId.{PacketId}
use Rattle.buffer_book.specs.Book.{Kept, IsQueued, Item, Aside, Shelf, Book, IsAway, IsFree, shelf_of, slot_of, place_at, name_at, item_at, item_on, item_as, item_aside, aside_on, place_aside, item_of_shelf, lent_as, if_state, is_state, queued_at, with_own, with_shelf, with_queued, with_joined, with_lent, with_taken, with_frame, lent_under, left_of, aside_of, moved_aside, begun, enqueued, joined, lent_on, taken, taken_named, taken_named_of, taken_aside, taken_aside_of}
use Rattle.buffer_book.proofs.Sets.{set-same, set-other}
use Rattle.buffer_book.proofs.ShelfLemmas.{is_shelf_of, other-stays, own-changes, KeepsPeer, taken-peer, enqueued-peer}

-- ---- the shelf that a change leaves

own-shelf : (peer : ℕ) (change : Shelf → Shelf) (ss : List Shelf) (s : Shelf) → KeepsPeer change → find (is_shelf_of peer) ss ≡ Some s → find (is_shelf_of peer) (map (with_own peer change) ss) ≡ Some (change s)
own-shelf peer change [] s keeps found = absurd cc
own-shelf peer change (x ∷ ss) s keeps found =
    elim (x.peer == peer) as (λ b. (x.peer == peer) ≡ b → cond b (Some x) (find (is_shelf_of peer) ss) ≡ Some s → find (is_shelf_of peer) (with_own peer change x ∷ map (with_own peer change) ss) ≡ Some (change s)) [
      | true ↦ λ own found.
          let is : ((change x).peer == peer) ≡ true = ap (λ n. n == peer) (keeps x) ∙ own in
          let same : x ≡ s = cc in
          rw (own-changes peer change x own, is) (ap (λ (y : Shelf). Some (change y)) same)
      | false ↦ λ other found. rw (other-stays peer change x other, other) (own-shelf peer change ss s keeps found)
    ] refl found

pub at-own : (b : Book) (peer : ℕ) (change : Shelf → Shelf) (s : Shelf) → KeepsPeer change → shelf_of b peer ≡ Some s → shelf_of (with_shelf b peer change) peer ≡ Some (change s)
at-own b peer change s keeps found = own-shelf peer change b.shelves s keeps found

other-shelf : (own peer : ℕ) (change : Shelf → Shelf) (ss : List Shelf) → KeepsPeer change → peer ≢ own → find (is_shelf_of peer) (map (with_own own change) ss) ≡ find (is_shelf_of peer) ss
other-shelf own peer change [] keeps differ = refl
other-shelf own peer change (x ∷ ss) keeps differ =
    elim (x.peer == own) as (λ b. (x.peer == own) ≡ b → find (is_shelf_of peer) (with_own own change x ∷ map (with_own own change) ss) ≡ find (is_shelf_of peer) (x ∷ ss)) [
      | true ↦ λ is.
          let away : (x.peer == peer) ≡ false = ne_eqb x.peer peer (λ same. differ (sym same ∙ eqb-true x.peer own is)) in
          let away' : ((change x).peer == peer) ≡ false = ap (λ n. n == peer) (keeps x) ∙ away in
          rw (own-changes own change x is, away, away') (other-shelf own peer change ss keeps differ)
      | false ↦ λ other. rw (other-stays own change x other) (ap (cond (x.peer == peer) (Some x)) (other-shelf own peer change ss keeps differ))
    ] refl

-- a change of one peer leaves the shelf of each other, so its places, its items and its counts
pub at-other_peer : (b : Book) (own peer : ℕ) (change : Shelf → Shelf) → KeepsPeer change → peer ≢ own → shelf_of (with_shelf b own change) peer ≡ shelf_of b peer
at-other_peer b own peer change keeps differ = other-shelf own peer change b.shelves keeps differ

abbrev pub place_of_shelf : ℕ → Option Shelf → Option (Option Kept)
place_of_shelf n o = option_and_then (λ (s : Shelf). slice_get s.places n) o

abbrev pub name_of_shelf : ℕ → Option Shelf → Option (Option Item)
name_of_shelf n o = option_and_then (λ (s : Shelf). slice_get s.items n) o

item-name-by : (n : ℕ) (o : Option Shelf) → option_and_then (λ (s : Shelf). item_on s.items n) o ≡ option_and_then (λ (i : Option Item). i) (name_of_shelf n o)
item-name-by n None = refl
item-name-by n (Some s) = refl

-- an item is what stands at its name
pub item-name : (b : Book) (slot : Slot) → item_at b slot ≡ option_and_then (λ (i : Option Item). i) (name_at b slot)
item-name b slot = item-name-by slot.buffer (shelf_of b slot.peer)

name-some : (o : Option (Option Item)) (i : Item) → option_and_then (λ (x : Option Item). x) o ≡ Some i → o ≡ Some (Some i)
name-some None i is = absurd cc
name-some (Some x) i is = ap (λ (y : Option Item). Some y) is

pub name-item : (b : Book) (slot : Slot) (i : Item) → item_at b slot ≡ Some i → name_at b slot ≡ Some (Some i)
name-item b slot i is = name-some (name_at b slot) i (sym (item-name b slot) ∙ is)

-- ---- an item of one frame comes in

-- where a name stands for no item, nothing moves aside
pub free-aside : (name : ℕ) (s : Shelf) → slice_get s.items name ≡ Some None → moved_aside name s ≡ s
free-aside name s free = ap (λ (o : Option (Option Item)). aside_of name (option_and_then (λ (x : Option Item). x) o) s) free

-- the shelf after it, where the name is free
pub enqueued-shelf : (b : Book) (slot : Slot) (k : Kept) (s : Shelf) → IsFree b slot → shelf_of b slot.peer ≡ Some s → shelf_of (with_queued b slot k) slot.peer ≡ Some (begun slot.buffer k s)
enqueued-shelf b slot k s free found =
    let at : slice_get s.items slot.buffer ≡ Some None = sym (ap (name_of_shelf slot.buffer) found) ∙ free in
    at-own b slot.peer (enqueued slot.buffer k) s (enqueued-peer slot.buffer k) found ∙ ap (λ (x : Shelf). Some (begun slot.buffer k x)) (free-aside slot.buffer s at)

pub enqueued-name : (b : Book) (slot : Slot) (k : Kept) → IsFree b slot → name_at (with_queued b slot k) slot ≡ Some (Some (record { lent = None; first = slot.buffer; more = [] }))
enqueued-name b slot k free =
    option_and_then_some (λ (s : Shelf). slice_get s.items slot.buffer) (shelf_of b slot.peer) None free
    (λ s found at. ap (name_of_shelf slot.buffer) (enqueued-shelf b slot k s free found) ∙ set-same s.items slot.buffer None (Some (record { lent = None; first = slot.buffer; more = [] })) at)

places-aside : (name : ℕ) (o : Option Item) (s : Shelf) → (aside_of name o s).places ≡ s.places
places-aside name None s = refl
places-aside name (Some i) s = refl

pub enqueued-place : (b : Book) (slot : Slot) (k : Kept) → IsAway b slot → place_at (with_queued b slot k) slot ≡ Some (Some k)
enqueued-place b slot k away =
    option_and_then_some (λ (s : Shelf). slice_get s.places slot.buffer) (shelf_of b slot.peer) None away
    (λ s found at.
    ap (place_of_shelf slot.buffer) (at-own b slot.peer (enqueued slot.buffer k) s (enqueued-peer slot.buffer k) found)
    ∙ ap (λ (ps : List (Option Kept)). slice_get (slice_set ps slot.buffer (Some k)) slot.buffer) (places-aside slot.buffer (item_on s.items slot.buffer) s)
    ∙ set-same s.places slot.buffer None (Some k) at)

-- ---- a frame more

pub joined-name : (b : Book) (slot : Slot) (k : Kept) (i : Item) → item_at b slot ≡ Some i → name_at (with_joined b slot k) slot ≡ Some (Some (with_frame k.buffer.number i))
joined-name b slot k i is =
    option_and_then_some (λ (s : Shelf). slice_get s.items slot.buffer) (shelf_of b slot.peer) (Some i) (name-item b slot i is)
    (λ s found at.
    let here : item_on s.items slot.buffer ≡ Some i = ap (λ (o : Option (Option Item)). option_and_then (λ (x : Option Item). x) o) at in
    ap (name_of_shelf slot.buffer) (at-own b slot.peer (joined slot.buffer k.buffer.number k) s (λ x. refl) found)
    ∙ set-same s.items slot.buffer (Some i) (option_map (with_frame k.buffer.number) (item_on s.items slot.buffer)) at
    ∙ ap (λ (o : Option Item). Some (option_map (with_frame k.buffer.number) o)) here)

pub joined-place : (b : Book) (slot : Slot) (k : Kept) → IsAway b (record slot { buffer = k.buffer.number }) → place_at (with_joined b slot k) (record slot { buffer = k.buffer.number }) ≡ Some (Some k)
joined-place b slot k away =
    option_and_then_some (λ (s : Shelf). slice_get s.places k.buffer.number) (shelf_of b slot.peer) None away
    (λ s found at. ap (place_of_shelf k.buffer.number) (at-own b slot.peer (joined slot.buffer k.buffer.number k) s (λ x. refl) found) ∙ set-same s.places k.buffer.number None (Some k) at)

-- ---- lent

pub lent-name : (b : Book) (slot : Slot) (i : Item) → item_at b slot ≡ Some i → name_at (with_lent b slot) slot ≡ Some (Some (lent_under b.lends i))
lent-name b slot i is =
    option_and_then_some (λ (s : Shelf). slice_get s.items slot.buffer) (shelf_of b slot.peer) (Some i) (name-item b slot i is)
    (λ s found at.
    let here : item_on s.items slot.buffer ≡ Some i = ap (λ (o : Option (Option Item)). option_and_then (λ (x : Option Item). x) o) at in
    ap (name_of_shelf slot.buffer) (at-own b slot.peer (lent_on slot.buffer b.lends) s (λ x. refl) found)
    ∙ set-same s.items slot.buffer (Some i) (option_map (lent_under b.lends) (item_on s.items slot.buffer)) at
    ∙ ap (λ (o : Option Item). Some (option_map (lent_under b.lends) o)) here)

-- ---- the first frame is taken

-- the shelf after it, where the item is in this state
pub taken-shelf : (s : Shelf) (name : ℕ) (lent : Option ℕ) (i : Item) → slice_get s.items name ≡ Some (Some i) → is_state i.lent lent ≡ true → taken name lent s ≡ taken_named_of name (Some i) s
taken-shelf s name lent i at state =
    let on : item_on s.items name ≡ Some i = ap (λ (o : Option (Option Item)). option_and_then (λ (x : Option Item). x) o) at in
    let here : item_as s.items name lent ≡ Some i = ap (option_and_then (if_state lent)) on ∙ rw state refl in
    ap (λ (o : Option Item). cond (is_some o) (taken_named name s) (taken_aside (place_aside s.aside name lent) s)) here
    ∙ ap (λ (o : Option Item). taken_named_of name o s) on

pub taken-name : (b : Book) (slot : Slot) (lent : Option ℕ) (i : Item) → item_at b slot ≡ Some i → is_state i.lent lent ≡ true → name_at (with_taken b slot lent) slot ≡ Some (left_of i.lent i.more)
taken-name b slot lent i is state =
    option_and_then_some (λ (s : Shelf). slice_get s.items slot.buffer) (shelf_of b slot.peer) (Some i) (name-item b slot i is)
    (λ s found at.
    ap (name_of_shelf slot.buffer) (at-own b slot.peer (taken slot.buffer lent) s (taken-peer slot.buffer lent) found)
    ∙ ap (λ (x : Shelf). slice_get x.items slot.buffer) (taken-shelf s slot.buffer lent i at state)
    ∙ set-same s.items slot.buffer (Some i) (left_of i.lent i.more) at)

pub taken-place : (b : Book) (slot : Slot) (lent : Option ℕ) (i : Item) (p : Option Kept) → item_at b slot ≡ Some i → is_state i.lent lent ≡ true → place_at b (record slot { buffer = i.first }) ≡ Some p → IsAway (with_taken b slot lent) (record slot { buffer = i.first })
taken-place b slot lent i p is state there =
    option_and_then_some (λ (s : Shelf). slice_get s.items slot.buffer) (shelf_of b slot.peer) (Some i) (name-item b slot i is)
    (λ s found at.
    let held : slice_get s.places i.first ≡ Some p = sym (ap (place_of_shelf i.first) found) ∙ there in
    ap (place_of_shelf i.first) (at-own b slot.peer (taken slot.buffer lent) s (taken-peer slot.buffer lent) found)
    ∙ ap (λ (x : Shelf). slice_get x.places i.first) (taken-shelf s slot.buffer lent i at state)
    ∙ set-same s.places i.first p None held)

-- ---- an item of one frame, from when it comes in to when it is taken out

abbrev pub single : ℕ → Item
single n = record { lent = None; first = n; more = [] }

pub enqueued-item : (b : Book) (slot : Slot) (k : Kept) → IsFree b slot → item_at (with_queued b slot k) slot ≡ Some (single slot.buffer)
enqueued-item b slot k free = item-name (with_queued b slot k) slot ∙ ap (λ (o : Option (Option Item)). option_and_then (λ (i : Option Item). i) o) (enqueued-name b slot k free)

pub enqueued-queued : (b : Book) (slot : Slot) (k : Kept) → IsFree b slot → queued_at (with_queued b slot k) slot ≡ Some (single slot.buffer)
enqueued-queued b slot k free = ap (λ (o : Option Item). option_and_then (if_state None) o) (enqueued-item b slot k free)

pub back-away : (b : Book) (slot : Slot) (k : Kept) → IsAway b slot → IsFree b slot → IsAway (with_taken (with_queued b slot k) slot None) slot
back-away b slot k away free = taken-place (with_queued b slot k) slot None (single slot.buffer) (Some k) (enqueued-item b slot k free) refl (enqueued-place b slot k away)

pub back-free : (b : Book) (slot : Slot) (k : Kept) → IsFree b slot → IsFree (with_taken (with_queued b slot k) slot None) slot
back-free b slot k free = taken-name (with_queued b slot k) slot None (single slot.buffer) (enqueued-item b slot k free) refl

-- ---- what a change leaves

pub found-changed : (own : ℕ) (change : Shelf → Shelf) (ss : List Shelf) → KeepsPeer change → find (is_shelf_of own) (map (with_own own change) ss) ≡ option_map change (find (is_shelf_of own) ss)
found-changed own change [] keeps = refl
found-changed own change (x ∷ ss) keeps =
    elim (x.peer == own) as (λ b. (x.peer == own) ≡ b → find (is_shelf_of own) (with_own own change x ∷ map (with_own own change) ss) ≡ option_map change (cond b (Some x) (find (is_shelf_of own) ss))) [
      | true ↦ λ is.
          let here : ((change x).peer == own) ≡ true = ap (λ n. n == own) (keeps x) ∙ is in
          rw (own-changes own change x is, here) refl
      | false ↦ λ other. rw (other-stays own change x other, other) (found-changed own change ss keeps)
    ] refl

name-left : (n : ℕ) (change : Shelf → Shelf) (o : Option Shelf) → ((s : Shelf) → slice_get (change s).items n ≡ slice_get s.items n) → name_of_shelf n (option_map change o) ≡ name_of_shelf n o
name-left n change None same = refl
name-left n change (Some s) same = same s

place-left : (n : ℕ) (change : Shelf → Shelf) (o : Option Shelf) → ((s : Shelf) → slice_get (change s).places n ≡ slice_get s.places n) → place_of_shelf n (option_map change o) ≡ place_of_shelf n o
place-left n change None same = refl
place-left n change (Some s) same = same s

-- a name that the change of a shelf leaves is left in the book
pub name-kept : (b : Book) (own : ℕ) (change : Shelf → Shelf) (slot : Slot) → KeepsPeer change → ((s : Shelf) → slice_get (change s).items slot.buffer ≡ slice_get s.items slot.buffer) → name_at (with_shelf b own change) slot ≡ name_at b slot
name-kept b own change slot keeps same =
    elim (slot.peer == own) as (λ e. (slot.peer == own) ≡ e → name_at (with_shelf b own change) slot ≡ name_at b slot) [
      | true ↦ λ is. rw (eqb-true slot.peer own is) (ap (name_of_shelf slot.buffer) (found-changed own change b.shelves keeps) ∙ name-left slot.buffer change (shelf_of b own) same)
      | false ↦ λ other. ap (name_of_shelf slot.buffer) (at-other_peer b own slot.peer change keeps (eqb-false slot.peer own other))
    ] refl

pub place-kept : (b : Book) (own : ℕ) (change : Shelf → Shelf) (slot : Slot) → KeepsPeer change → ((s : Shelf) → slice_get (change s).places slot.buffer ≡ slice_get s.places slot.buffer) → place_at (with_shelf b own change) slot ≡ place_at b slot
place-kept b own change slot keeps same =
    elim (slot.peer == own) as (λ e. (slot.peer == own) ≡ e → place_at (with_shelf b own change) slot ≡ place_at b slot) [
      | true ↦ λ is. rw (eqb-true slot.peer own is) (ap (place_of_shelf slot.buffer) (found-changed own change b.shelves keeps) ∙ place-left slot.buffer change (shelf_of b own) same)
      | false ↦ λ other. ap (place_of_shelf slot.buffer) (at-other_peer b own slot.peer change keeps (eqb-false slot.peer own other))
    ] refl

-- ---- the names and places that each change leaves

items-aside : (name m : ℕ) (s : Shelf) → m ≢ name → slice_get (moved_aside name s).items m ≡ slice_get s.items m
items-aside name m s other = by-item (item_on s.items name)
  where
    by-item : (o : Option Item) → slice_get (aside_of name o s).items m ≡ slice_get s.items m
    by-item None = refl
    by-item (Some i) = set-other s.items name m None other

pub enqueued-name_kept : (b : Book) (slot other : Slot) (k : Kept) → other.buffer ≢ slot.buffer → name_at (with_queued b slot k) other ≡ name_at b other
enqueued-name_kept b slot other k differs =
    name-kept b slot.peer (enqueued slot.buffer k) other (enqueued-peer slot.buffer k)
    (λ s. set-other (moved_aside slot.buffer s).items slot.buffer other.buffer (Some (single slot.buffer)) differs ∙ items-aside slot.buffer other.buffer s differs)

pub joined-name_kept : (b : Book) (slot other : Slot) (k : Kept) → other.buffer ≢ slot.buffer → name_at (with_joined b slot k) other ≡ name_at b other
joined-name_kept b slot other k differs =
    name-kept b slot.peer (joined slot.buffer k.buffer.number k) other (λ s. refl)
    (λ s. set-other s.items slot.buffer other.buffer (option_map (with_frame k.buffer.number) (item_on s.items slot.buffer)) differs)

pub lent-name_kept : (b : Book) (slot other : Slot) → other.buffer ≢ slot.buffer → name_at (with_lent b slot) other ≡ name_at b other
lent-name_kept b slot other differs =
    name-kept b slot.peer (lent_on slot.buffer b.lends) other (λ s. refl)
    (λ s. set-other s.items slot.buffer other.buffer (option_map (lent_under b.lends) (item_on s.items slot.buffer)) differs)

items-taken : (name : ℕ) (lent : Option ℕ) (m : ℕ) (s : Shelf) → m ≢ name → slice_get (taken name lent s).items m ≡ slice_get s.items m
items-taken name lent m s other = by-found (is_some (item_as s.items name lent))
  where
    by-item : (o : Option Item) → slice_get (taken_named_of name o s).items m ≡ slice_get s.items m
    by-item None = refl
    by-item (Some i) = set-other s.items name m (left_of i.lent i.more) other

    by-aside : (l : ℕ) (o : Option Aside) → slice_get (taken_aside_of l o s).items m ≡ slice_get s.items m
    by-aside l None = refl
    by-aside l (Some a) = refl

    by-place : (o : Option ℕ) → slice_get (taken_aside o s).items m ≡ slice_get s.items m
    by-place None = refl
    by-place (Some l) = by-aside l (aside_on s.aside l)

    by-found : (b : Bool) → slice_get (cond b (taken_named name s) (taken_aside (place_aside s.aside name lent) s)).items m ≡ slice_get s.items m
    by-found true = by-item (item_on s.items name)
    by-found false = by-place (place_aside s.aside name lent)

pub taken-name_kept : (b : Book) (slot other : Slot) (lent : Option ℕ) → other.buffer ≢ slot.buffer → name_at (with_taken b slot lent) other ≡ name_at b other
taken-name_kept b slot other lent differs =
    name-kept b slot.peer (taken slot.buffer lent) other (taken-peer slot.buffer lent) (λ s. items-taken slot.buffer lent other.buffer s differs)

pub enqueued-place_kept : (b : Book) (slot other : Slot) (k : Kept) → other.buffer ≢ slot.buffer → place_at (with_queued b slot k) other ≡ place_at b other
enqueued-place_kept b slot other k differs =
    place-kept b slot.peer (enqueued slot.buffer k) other (enqueued-peer slot.buffer k)
    (λ s. ap (λ (ps : List (Option Kept)). slice_get (slice_set ps slot.buffer (Some k)) other.buffer) (places-aside slot.buffer (item_on s.items slot.buffer) s) ∙ set-other s.places slot.buffer other.buffer (Some k) differs)

pub joined-place_kept : (b : Book) (slot other : Slot) (k : Kept) → other.buffer ≢ k.buffer.number → place_at (with_joined b slot k) other ≡ place_at b other
joined-place_kept b slot other k differs =
    place-kept b slot.peer (joined slot.buffer k.buffer.number k) other (λ s. refl) (λ s. set-other s.places k.buffer.number other.buffer (Some k) differs)

pub lent-place_kept : (b : Book) (slot other : Slot) → place_at (with_lent b slot) other ≡ place_at b other
lent-place_kept b slot other = place-kept b slot.peer (lent_on slot.buffer b.lends) other (λ s. refl) (λ s. refl)

-- ---- the item that is lent under an id

pub or-none : {X : Type 0} (o : Option X) → option_or o None ≡ o
or-none None = refl
or-none (Some x) = refl

-- an item that its name stands for, by its id
pub lent-at : (b : Book) (id : PacketId) (i : Item) → item_at b (slot_of id) ≡ Some i → is_state i.lent (Some id.serial) ≡ true → lent_as b id ≡ Some i
lent-at b id i is state =
    option_and_then_some (λ (s : Shelf). item_on s.items id.buffer) (shelf_of b id.peer) i is
    (λ s found on.
    let here : item_as s.items id.buffer (Some id.serial) ≡ Some i = ap (option_and_then (if_state (Some id.serial))) on ∙ rw state refl in
    ap (λ (o : Option Shelf). option_and_then (λ (x : Shelf). item_of_shelf x id.buffer (Some id.serial)) o) found
    ∙ ap (λ (o : Option Item). option_or o (item_aside s.aside id.buffer (Some id.serial))) here)

-- what is lent has the id that the call returns
pub lent-id : (b : Book) (slot : Slot) (i : Item) → item_at b slot ≡ Some i → lent_as (with_lent b slot) (record { peer = slot.peer; buffer = slot.buffer; serial = b.lends }) ≡ Some (lent_under b.lends i)
lent-id b slot i is =
    let item = item-name (with_lent b slot) slot ∙ ap (λ (o : Option (Option Item)). option_and_then (λ (x : Option Item). x) o) (lent-name b slot i is) in
    lent-at (with_lent b slot) (record { peer = slot.peer; buffer = slot.buffer; serial = b.lends }) (lent_under b.lends i) item (eq-eqb b.lends b.lends refl)

-- ---- an item in the queue, when a frame joins it

queued-some : (o : Option Item) → is_some (option_and_then (if_state None) o) ≡ true → (i : Item) × (o ≡ Some i) × (is_state i.lent None ≡ true)
queued-some None is = absurd cc
queued-some (Some i) is = (i, refl, by-state (is_state i.lent None) is)
  where
    by-state : (b : Bool) → is_some (cond b (Some i) None) ≡ true → b ≡ true
    by-state true is = refl
    by-state false is = absurd cc

pub joined-queued : (b : Book) (slot : Slot) (k : Kept) → IsQueued b slot → IsQueued (with_joined b slot k) slot
joined-queued b slot k queued =
    let i = queued-some (item_at b slot) queued in
    let item = item-name (with_joined b slot k) slot ∙ ap (λ (o : Option (Option Item)). option_and_then (λ (x : Option Item). x) o) (joined-name b slot k i.0 i.1) in
    ap (λ (o : Option Item). is_some (option_and_then (if_state None) o)) item ∙ rw i.2 refl
