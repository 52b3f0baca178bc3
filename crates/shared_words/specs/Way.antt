-- One way of a ring: what one half wrote, and the other took.
-- Source: VIRTIO 1.2, sections 2.7.6 and 2.7.8: idx counts modulo 65536, and the entry of count n stands at place n modulo the size.
use Rattle.std.specs.Prelude.{◌≡◌, ℕ, ◌%◌, ◌<◌, ◌≤◌, List, ◌++◌, length, slice_index, Option, Some}
use mathlib.Core.Option as table
use mathlib.Core.Option.{some}
use lib.ListN.{get_elem?}
use Rattle.mc_base.specs.Stored.{Stored}
use Rattle.shared_words.specs.Layout.{word}
use Rattle.shared_words.specs.Entry.{Entry, number_of}
use Rattle.shared_words.specs.declared.field.Field.TheVariants.{DescLen, AvailIdx, AvailRing, UsedIdx, UsedId, UsedLen}
use Rattle.shared_words.specs.declared.view.Role.{Role}
use Rattle.shared_words.specs.declared.view.Role.TheVariants.{Driver, Device}
use Rattle.shared_words.specs.declared.view.Staged.{Staged}
use Rattle.shared_words.specs.declared.view.Staged.TheVariants.{NumberRead}

-- which words hold idx, the number at a place, and a length; and where the length of the n-th entry stands, which has this number
pub record Way : Type 0 where
  pub idx : ℕ
  pub number : ℕ → ℕ
  pub len : ℕ → ℕ
  pub len_place : ℕ → ℕ → ℕ

-- from the driver to the device: the available ring, with the lengths in the descriptors
abbrev pub available : ℕ → Way
available size = record { idx = word size AvailIdx; number = λ p. word size (AvailRing p); len = λ i. word size (DescLen i); len_place = λ n id. id }

-- from the device to the driver: the used ring
abbrev pub used : ℕ → Way
used size = record { idx = word size UsedIdx; number = λ p. word size (UsedId p); len = λ p. word size (UsedLen p); len_place = λ n id. n % size }

-- the way that a half writes
abbrev pub way_of : Role → ℕ → Way
way_of Driver size = available size
way_of Device size = used size

abbrev pub other : Role → Role
other Driver = Device
other Device = Driver

-- the slots of a table: each out with a seat, or at home with a buffer or empty
abbrev pub Homes : Type 0
Homes = List (table.Option (Option Stored))

-- the n-th entry stands in the words, and its buffer in its slot
pub record Standing (way : Way) (size : ℕ) (words : List ℕ) (homes : Homes) (n : ℕ) (e : Entry) : Type 0 where
  pub number : slice_index words (way.number (n % size)) ≡ number_of e
  pub len : slice_index words (way.len (way.len_place n (number_of e))) ≡ e.1
  pub slot : get_elem? homes (number_of e) ≡ some (some (Some e.0))

-- one half wrote this list, and the other took that one, was shown so many entries and has this staged
pub record WayHolds (way : Way) (size : ℕ) (words : List ℕ) (homes : Homes) (written taken : List Entry) (shown : ℕ) (staged : Staged) : Type 0 where
  -- the entries that were written and not taken
  pub left : List Entry
  pub idx : slice_index words way.idx ≡ length written % 65536
  pub in_order : written ≡ taken ++ left
  pub shown_first : length taken ≤ shown
  pub written_first : shown ≤ length written
  pub standing : (n : ℕ) (e : Entry) → length taken ≤ n → get_elem? written n ≡ some e → Standing way size words homes n e
  -- the number that the taker read is that of the next entry, which was shown
  pub read : (id : ℕ) → staged ≡ NumberRead id → (length taken < shown) × ((e : Entry) → get_elem? written (length taken) ≡ some e → number_of e ≡ id)
