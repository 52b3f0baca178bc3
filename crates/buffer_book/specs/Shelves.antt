-- What is held at a place of a list of shelves, and the shelves after a change there.
-- Source: the code of the book, which goes over its shelves.
use Rattle.std.specs.Prelude.{ℕ, List, map, Option, None, Some}
use Rattle.mc_base.specs.declared.request.Slot.{Slot}
use Rattle.buffer_book.specs.Book.{Kept, Item, Shelf, Book, AllDiffer, place_at, queued_at, lent_as, frame_at, with_own}

abbrev pub shelved : List Shelf → Book
shelved shelves = record { shelves = shelves; lends = 0 }

abbrev pub place_in : List Shelf → Slot → Option (Option Kept)
place_in shelves slot = place_at (shelved shelves) slot

-- the item that a slot names in the queue, or with this serial
abbrev pub item_in : List Shelf → Slot → Option ℕ → Option Item
item_in shelves slot None = queued_at (shelved shelves) slot
item_in shelves slot (Some serial) = lent_as (shelved shelves) (record { peer = slot.peer; buffer = slot.buffer; serial = serial })

abbrev pub frame_in : List Shelf → Slot → ℕ → Item → Option Kept
frame_in shelves slot n i = frame_at (shelved shelves) slot.peer n i

abbrev pub with_shelf_in : List Shelf → ℕ → (Shelf → Shelf) → List Shelf
with_shelf_in shelves peer change = map (with_own peer change) shelves

abbrev pub PeersDiffer : List Shelf → Type 0
PeersDiffer shelves = AllDiffer (map (λ (s : Shelf). s.peer) shelves)
