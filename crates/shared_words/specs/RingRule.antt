-- The rule of a ring: what holds of its words, its slots and all views between any two steps of its halves.
-- Source: VIRTIO 1.2, section 2.7, with one atomic load or store of one field as a step.
use Rattle.std.specs.Prelude.{◌≡◌, ◌⊎◌, ℕ, List, [], ◌∷◌, map, length, replicate, Option, None}
use mathlib.Core.Option.{none, some}
use lib.ListN.{get_elem?}
use Rattle.atomic_table.specs.Table.{State}
use Rattle.mc_base.specs.Stored.{Stored}
use Rattle.shared_words.specs.Layout.{word_count, field_at}
use Rattle.shared_words.specs.Shape.{IsShape}
use Rattle.shared_words.specs.Way.{Homes, WayHolds, way_of}
use Rattle.shared_words.specs.Places.{Holds, EachOnce}
use Rattle.shared_words.specs.Staging.{InOrder, StagedHolds}
use Rattle.shared_words.specs.LastEntries.{LastEntries}
use Rattle.shared_words.specs.Constants.{Constants, InRange}
use Rattle.shared_words.specs.Views.{ViewsHold, of_role}
use Rattle.shared_words.specs.declared.field.Field.TheVariants.{AvailIdx, UsedIdx}
use Rattle.shared_words.specs.declared.rule.Shape.{Shape}
use Rattle.shared_words.specs.declared.view.Role.{Role}
use Rattle.shared_words.specs.declared.view.Role.TheVariants.{Driver, Device}
use Rattle.shared_words.specs.declared.view.Staged.TheVariants.{Idle}
use Rattle.shared_words.specs.declared.view.HalfView.{HalfView}
use Rattle.shared_words.specs.declared.view.View.{View}
use Rattle.shared_words.specs.declared.view.View.TheVariants.{Opening}

-- the table of a ring: words, slots that hold a buffer or none, and views
abbrev pub RingState : Type 0
RingState = State (Option Stored) View

-- all that is said of one way, which `writer` writes and `taker` takes from. It is told twice, once a way
pub record OneWay (role : Role) (key : Shape) (words : List ℕ) (homes : Homes) (writer taker : HalfView) : Type 0 where
  pub entries : WayHolds (way_of role key.size) key.size words homes writer.written taker.taken taker.shown taker.staged
  pub staged : StagedHolds (way_of role key.size) key.size key.length words (Holds role key.size writer) (length writer.written) writer.staged
  pub staged_in_order : InOrder role writer.staged
  -- the slot of a number that the writer holds is out
  pub out : (x : ℕ) → Holds role key.size writer x → get_elem? homes x ≡ some none
  pub in_range : InRange (way_of role key.size) key words writer.written
  pub last_entries : LastEntries (way_of role key.size) key.size words writer.written writer.staged
  pub width : writer.width ≡ key.length

-- the words and slots are those of halves with these views
pub record Content (key : Shape) (words : List ℕ) (homes : Homes) (driver device : HalfView) : Type 0 where
  pub shape : IsShape key
  pub word_count : length words ≡ word_count key.size
  pub slot_count : length homes ≡ key.size
  pub offers : OneWay Driver key words homes driver device
  pub returns : OneWay Device key words homes device driver
  pub each_once : EachOnce key.size driver device offers.entries.left returns.entries.left
  pub constants : Constants key words

-- a ring that has begun
pub record Running (key : Shape) (s : RingState) : Type 0 where
  pub driver : HalfView
  pub device : HalfView
  pub driver_seat : ℕ
  pub device_seat : ℕ
  pub views : ViewsHold (of_role driver device) (of_role driver_seat device_seat) s.views
  pub content : Content key s.words s.homes driver device

-- the view of a half that has done nothing
abbrev pub new_view : ℕ → HalfView
new_view width = record { written = []; taken = []; shown = 0; looks = []; staged = Idle; steps = 0; width = width }

-- a ring that has not begun: no half is there, nothing was written, and every slot is at home and empty
pub record NotBegun (key : Shape) (s : RingState) : Type 0 where
  pub shape : IsShape key
  pub views : s.views ≡ Opening key.length ∷ []
  pub word_count : length s.words ≡ word_count key.size
  pub homes : s.homes ≡ map some (replicate key.size None)
  pub avail_idx : field_at s.words key.size AvailIdx ≡ 0
  pub used_idx : field_at s.words key.size UsedIdx ≡ 0
  pub offered : LastEntries (way_of Driver key.size) key.size s.words [] Idle
  pub returned : LastEntries (way_of Device key.size) key.size s.words [] Idle
  pub offered_in_range : InRange (way_of Driver key.size) key s.words []
  pub returned_in_range : InRange (way_of Device key.size) key s.words []
  pub constants : Constants key s.words

abbrev pub RingRule : Shape → RingState → Type 0
RingRule key s = NotBegun key s ⊎ Running key s
