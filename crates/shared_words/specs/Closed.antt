-- A ring at its end: nothing is staged, and every word is a function of the queue, the size and the two lists written.
-- Source: VIRTIO 1.2, section 2.7: the descriptor table, the available ring and the used ring.
use Rattle.std.specs.Prelude.{◌≡◌, ℕ, ◌+◌, ◌%◌, ◌≤◌, List, ◌++◌, length, Option, Some}
use mathlib.Core.Option.{some}
use lib.ListN.{get_elem?}
use Rattle.mc_base.specs.Stored.{Stored}
use Rattle.shared_words.specs.declared.field.Field.{Field}
use Rattle.shared_words.specs.declared.field.Field.TheVariants.{DescAddr, DescLen, DescFlags, DescNext, AvailFlags, AvailIdx, AvailRing, UsedFlags, UsedIdx, UsedId, UsedLen}
use Rattle.shared_words.specs.declared.rule.Shape.{Shape}
use Rattle.shared_words.specs.declared.view.HalfView.{HalfView}
use Rattle.shared_words.specs.Layout.{word_count, HasPlace, field_at}
use Rattle.shared_words.specs.Entry.{Entry, number_of}
use Rattle.shared_words.specs.Way.{available, used}
use Rattle.shared_words.specs.Places.{EachOnce}
use Rattle.shared_words.specs.LastEntries.{last_number, last_len}
use Rattle.shared_words.specs.Constants.{InRange, address_of, flags_of}

-- the value of a field, when these entries were offered and those returned
abbrev pub field_value : Shape → List Entry → List Entry → Field → ℕ
field_value key offered returned (DescAddr i) = address_of key i
field_value key offered returned (DescLen i) = last_len (available key.size) offered i
field_value key offered returned (DescFlags i) = flags_of key
field_value key offered returned (DescNext i) = 0
field_value key offered returned AvailFlags = 0
field_value key offered returned AvailIdx = length offered % 65536
field_value key offered returned (AvailRing p) = last_number key.size offered p
field_value key offered returned UsedFlags = 0
field_value key offered returned UsedIdx = length returned % 65536
field_value key offered returned (UsedId p) = last_number key.size returned p
field_value key offered returned (UsedLen p) = last_len (used key.size) returned p

-- the words are those of a ring at its end
pub record AreFinal (key : Shape) (offered returned : List Entry) (words : List ℕ) : Type 0 where
  pub count : length words ≡ word_count key.size
  pub each : (f : Field) → HasPlace key.size f → field_at words key.size f ≡ field_value key offered returned f

-- what is known of two halves, once the ring between them is closed
pub record IsClosed (key : Shape) (driver device : HalfView) (words : List ℕ) (home : List (Option Stored)) : Type 0 where
  -- the entries that were offered and not fetched, and those that were returned and not reclaimed
  pub offered_left : List Entry
  pub returned_left : List Entry
  pub offered : driver.written ≡ device.taken ++ offered_left
  pub returned : device.written ≡ driver.taken ++ returned_left
  pub device_shown : device.shown ≤ length driver.written
  pub driver_shown : driver.shown ≤ length device.written
  pub each_once : EachOnce key.size driver device offered_left returned_left
  pub all_words : AreFinal key driver.written device.written words
  -- each of them stands where it was written
  pub offered_stand : (n : ℕ) (e : Entry) → get_elem? offered_left n ≡ some e → field_at words key.size (AvailRing ((length device.taken + n) % key.size)) ≡ number_of e
  pub returned_stand : (n : ℕ) (e : Entry) → get_elem? returned_left n ≡ some e → field_at words key.size (UsedId ((length driver.taken + n) % key.size)) ≡ number_of e
  pub offered_in_range : InRange (available key.size) key words driver.written
  pub returned_in_range : InRange (used key.size) key words device.written
  pub slot_count : length home ≡ key.size
  -- the buffers that stand in the ring
  pub offered_home : (n : ℕ) (e : Entry) → get_elem? offered_left n ≡ some e → get_elem? home (number_of e) ≡ some (Some e.0)
  pub returned_home : (n : ℕ) (e : Entry) → get_elem? returned_left n ≡ some e → get_elem? home (number_of e) ≡ some (Some e.0)
