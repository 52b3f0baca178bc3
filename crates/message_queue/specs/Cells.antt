-- The cells of a queue, the lists that they stand in, and what waits in them.
-- Source: the code of the queue.
use Rattle.std.specs.Prelude.{◌≡◌, ℕ, ◌-◌, ◌<◌, ◌≤◌, ◌^◌, ◌==◌, Bool, List, [], ◌∷◌, ◌++◌, map, length, get_or, set, filter}
use Rattle.std.specs.List.{AllByRecursion}
use Rattle.message_queue.specs.declared.entry.Entry.{Entry}
use Rattle.message_queue.specs.declared.cells.Cell.{Cell}
use Rattle.message_queue.specs.declared.cells.Cells.{Cells}
use Rattle.message_queue.specs.Queue.{Waiting, waiting}
use Rattle.message_queue.specs.Linked.{at, walk, IsLinked, IsChain, EndsAt, Differ}

-- the links and the messages of all cells
pub record Columns : Type 0 where
  pub next : List ℕ
  pub prev : List ℕ
  pub same : List ℕ
  pub held : List Waiting

abbrev pub waiting_of : Entry → Waiting
waiting_of e = waiting e.slot e.priority

abbrev pub columns_of : List Cell → Columns
columns_of cs = record {
  next = map (λ c. c.next) cs;
  prev = map (λ c. c.prev) cs;
  same = map (λ c. c.same) cs;
  held = map (λ c. waiting_of c.entry) cs;
}

-- the message at a place
abbrev pub held_at : List Waiting → ℕ → Waiting
held_at held place = get_or held place (waiting (record { peer = 0; buffer = 0 }) 0)

abbrev pub has_priority : List Waiting → ℕ → ℕ → Bool
has_priority held priority place = (held_at held place).priority == priority

-- one place after another
abbrev pub with_link : Columns → ℕ → ℕ → Columns
with_link c before after = record c { next = set c.next before after; prev = set c.prev after before }

-- the free cell after this one
abbrev pub with_next : Columns → ℕ → ℕ → Columns
with_next c place after = record c { next = set c.next place after }

abbrev pub with_same : Columns → ℕ → ℕ → Columns
with_same c place after = record c { same = set c.same place after }

abbrev pub with_held : Columns → ℕ → Waiting → Columns
with_held c place w = record c { held = set c.held place w; same = set c.same place 0 }

-- These places hold what waits, in this order, and these are free. Each place but 0 is in one of the two lists, once. The
-- places of each priority are linked in the same order.
pub record AreLinked (c : Columns) (first last : List ℕ) (order spare : List ℕ) : Type 0 where
  pub linked : IsLinked c.next c.prev 0 order 0
  pub differ : Differ (0 ∷ (order ++ spare))
  pub inside : AllByRecursion (λ o. o < length c.next) (0 ∷ (order ++ spare))
  pub chains : (p : ℕ) → IsChain c.same (at first p) (filter (has_priority c.held p) order)
  pub ends : (p : ℕ) → EndsAt (at last p) (filter (has_priority c.held p) order)

-- for how many there is room: each cell but the first
abbrev pub room_of : Cells → ℕ
room_of c = length c.cells.items - 1

-- the places of what waits, the oldest first
abbrev pub order_of : Cells → List ℕ
order_of c = let next = (columns_of c.cells.items).next in walk next c.len (at next 0)

abbrev pub spare_of : Cells → List ℕ
spare_of c = walk (columns_of c.cells.items).next (room_of c - c.len) c.free

abbrev pub held_in : Cells → ℕ → Waiting
held_in c place = held_at (columns_of c.cells.items).held place

abbrev pub waiting_at : Cells → List ℕ → List Waiting
waiting_at c places = map (held_at (columns_of c.cells.items).held) places

-- what waits, the oldest first
abbrev pub waiting_in : Cells → List Waiting
waiting_in c = waiting_at c (order_of c)

pub record IsSound (c : Cells) : Type 0 where
  pub are_linked : AreLinked (columns_of c.cells.items) c.first c.last (order_of c) (spare_of c)
  pub within : c.len < length c.cells.items
  pub fits : length c.cells.items ≤ 2 ^ 32

-- the place of one that waits and that no older one of its priority stands before
pub record IsFirst (c : Cells) (place : ℕ) : Type 0 where
  pub before : List ℕ
  pub after : List ℕ
  pub split : order_of c ≡ before ++ place ∷ after
  pub first : filter (has_priority (columns_of c.cells.items).held (held_at (columns_of c.cells.items).held place).priority) before ≡ []
