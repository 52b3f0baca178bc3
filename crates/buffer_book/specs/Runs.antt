-- The items of a shelf, as its cells have them.
-- Source: the code of the book.
use Rattle.std.specs.Prelude.{◌≡◌, ◌<◌, ◌≤◌, ◌^◌, ◌+◌, ◌*◌, ℕ, zero, suc, Bool, false, List, replicate, slice_set, length, map, Option, None, Some, IsSome, option_map, option_and_then, slice_get, sum_by, is_none, is_some, ◌==◌, ◌&&◌, if◌then◌else◌}
use Rattle.std.specs.List.{AllByRecursion}
use Rattle.buffer_book.specs.declared.cell.Cell.{Cell}
use Rattle.buffer_book.specs.declared.cell.State.{State}
use Rattle.buffer_book.specs.declared.cell.State.TheVariants as state
use Rattle.buffer_book.specs.declared.cell.Run.{Run}
use Rattle.buffer_book.specs.declared.cell.Resting.{Resting}
use Rattle.buffer_book.specs.Book.{Kept, Item, Aside, Shelf, kept_on_place, frames_of, is_state}
use Rattle.buffer_book.specs.Links.{at, walk, last_of, Differ}

-- where the frames of an item begin and end, how many follow the first, and the serial under which it is lent
pub record Head : Type 0 where
  pub first : ℕ
  pub last : ℕ
  pub more : ℕ
  pub lent : Option ℕ

-- ---- the columns of the cells

abbrev pub state_head : State → ℕ → ℕ → ℕ → Option Head
state_head state.Free first last more = None
state_head state.Queued first last more = Some (record { first = first; last = last; more = more; lent = None })
state_head (state.Lent serial) first last more = Some (record { first = first; last = last; more = more; lent = Some serial })

abbrev pub head_of : Cell → Option Head
head_of c = state_head c.state c.first c.last c.more

-- what is held, what follows it, and the items of all numbers
pub record Columns : Type 0 where
  pub places : List (Option Kept)
  pub next : List ℕ
  pub heads : List (Option Head)

abbrev pub columns_of : List Cell → Columns
columns_of cells = record {
  places = map (λ (c : Cell). c.held) cells;
  next = map (λ (c : Cell). c.next) cells;
  heads = map head_of cells;
}

abbrev pub empty_columns : ℕ → Columns
empty_columns size = record { places = replicate size None; next = replicate size 0; heads = replicate size None }

abbrev pub with_held : Columns → ℕ → Option Kept → Columns
with_held c place k = record c { places = slice_set c.places place k }

abbrev pub with_link : Columns → ℕ → ℕ → Columns
with_link c place next = record c { next = slice_set c.next place next }

abbrev pub with_head : Columns → ℕ → Option Head → Columns
with_head c name h = record c { heads = slice_set c.heads name h }

abbrev pub head_on : List (Option Head) → ℕ → Option Head
head_on heads name = option_and_then (λ o. o) (slice_get heads name)

abbrev pub link_on : Columns → ℕ → ℕ
link_on c place = at c.next place

-- an item of one frame
abbrev pub named : ℕ → Head
named place = record { first = place; last = place; more = 0; lent = None }

abbrev pub joined_head : ℕ → Head → Head
joined_head last h = record h { last = last; more = h.more + 1 }

abbrev pub lent_head : ℕ → Head → Head
lent_head serial h = record h { lent = Some serial }

abbrev pub shortened_by : ℕ → Head → ℕ → Option Head
shortened_by next h zero = None
shortened_by next h (suc more) = Some (record h { first = next; more = more })

-- an item without its first frame, which this one follows
abbrev pub shortened : ℕ → Head → Option Head
shortened next h = shortened_by next h h.more

-- ---- the items

abbrev pub item_of : List ℕ → Head → Item
item_of next h = record { lent = h.lent; first = h.first; more = walk next h.more (at next h.first) }

abbrev pub items_of : List ℕ → List (Option Head) → List (Option Item)
items_of next heads = map (option_map (item_of next)) heads

-- the item that rests aside, whose last frame is this one
abbrev pub resting_head : ℕ → Resting → Head
resting_head last r = record { first = r.first; last = last; more = r.more; lent = Some r.serial }

abbrev pub aside_of_resting : List ℕ → Resting → Aside
aside_of_resting next r = record { name = r.name; item = item_of next (resting_head 0 r) }

abbrev pub asides_of : List ℕ → List (Option Resting) → List (Option Aside)
asides_of next resting = map (option_map (aside_of_resting next)) resting

abbrev pub shelf_of_columns : ℕ → Columns → List (Option Resting) → Shelf
shelf_of_columns peer c resting = record { peer = peer; places = c.places; items = items_of c.next c.heads; aside = asides_of c.next resting }

-- each held buffer stands at the place of its number
abbrev pub AreNumbered : List (Option Kept) → Type 0
AreNumbered places = (n : ℕ) (k : Kept) → slice_get places n ≡ Some (Some k) → k.buffer.number ≡ n

-- a place with a frame of the item of this key
abbrev pub IsOwn : List (Option Kept) → (ℕ → ℕ) → ℕ → ℕ → Type 0
IsOwn places owner key f = IsSome (kept_on_place places f) × (owner f ≡ key)

-- the frames of an item are held, in no other item, and each once
pub record IsRun (places : List (Option Kept)) (next : List ℕ) (owner : ℕ → ℕ) (key : ℕ) (h : Head) : Type 0 where
  pub own : AllByRecursion (IsOwn places owner key) (frames_of (item_of next h))
  pub differ : Differ (frames_of (item_of next h))
  pub last : h.last ≡ last_of h.first (walk next h.more (at next h.first))

-- how many frames
abbrev pub head_weight : Option Head → ℕ
head_weight None = 0
head_weight (Some h) = suc h.more

abbrev pub queued_weight : Option Head → ℕ
queued_weight None = 0
queued_weight (Some h) = if is_none h.lent then suc h.more else 0

abbrev pub lent_weight : Option Head → ℕ
lent_weight None = 0
lent_weight (Some h) = if is_some h.lent then suc h.more else 0

abbrev pub resting_weight : Option Resting → ℕ
resting_weight None = 0
resting_weight (Some r) = suc r.more

abbrev pub place_weight : Option Kept → ℕ
place_weight None = 0
place_weight (Some k) = 1

abbrev pub resting_one : Option Resting → ℕ
resting_one None = 0
resting_one (Some r) = 1

-- the item of the name n has the key 2 n, and the one aside at the place l has 2 l + 1
pub record IsSound (c : Columns) (resting : List (Option Resting)) (count : ℕ) : Type 0 where
  pub fits : length c.places < 2 ^ 32
  pub links : length c.next ≡ length c.places
  pub names : length c.heads ≡ length c.places
  pub rests : length resting ≡ length c.places
  pub numbered : AreNumbered c.places
  pub owner : ℕ → ℕ
  pub runs : (n : ℕ) (h : Head) → slice_get c.heads n ≡ Some (Some h) → IsRun c.places c.next owner (2 * n) h
  pub aside : (l : ℕ) (r : Resting) → slice_get resting l ≡ Some (Some r) → IsRun c.places c.next owner (2 * l + 1) (resting_head l r)
  pub few : sum_by head_weight c.heads + sum_by resting_weight resting ≤ sum_by place_weight c.places
  pub counted : count ≡ sum_by resting_one resting

-- ---- what is looked up

-- the item of a name, where it is in this state
abbrev pub if_head : Option ℕ → Head → Option Head
if_head lent h = if is_state h.lent lent then Some h else None

abbrev pub head_as : List (Option Head) → ℕ → Option ℕ → Option Head
head_as heads name lent = option_and_then (if_head lent) (head_on heads name)

abbrev pub run_of : Head → Run
run_of h = record { first = h.first; more = h.more }

abbrev pub run_of_item : Item → Run
run_of_item i = record { first = i.first; more = length i.more }

abbrev pub is_resting : ℕ → ℕ → Option Resting → Bool
is_resting name serial None = false
is_resting name serial (Some r) = r.name == name && r.serial == serial

-- an item aside without its first frame, which this one follows
abbrev pub rested : ℕ → Resting → ℕ → Option Resting
rested next r zero = None
rested next r (suc more) = Some (record r { first = next; more = more })

abbrev pub is_state_of : State → Option ℕ → Bool
is_state_of state.Free lent = false
is_state_of state.Queued lent = is_state None lent
is_state_of (state.Lent serial) lent = is_state (Some serial) lent
