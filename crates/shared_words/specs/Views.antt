-- What the seats of a ring's table know.
-- Source: docs/ARCHITECTURE.md: each half of a ring is one seat.
use Rattle.std.specs.Prelude.{◌≡◌, ℕ, ◌≤◌, List}
use mathlib.Core.Option.{some}
use lib.ListN.{get_elem?}
use Rattle.shared_words.specs.Entry.{IsPrefix}
use Rattle.shared_words.specs.Way.{other}
use Rattle.shared_words.specs.declared.view.Role.{Role}
use Rattle.shared_words.specs.declared.view.Role.TheVariants.{Driver, Device}
use Rattle.shared_words.specs.declared.view.HalfView.{HalfView}
use Rattle.shared_words.specs.declared.view.View.{View}
use Rattle.shared_words.specs.declared.view.View.TheVariants.{Opening, Whole, Live, Note, Told, Spent}

-- a note's lists are prefixes of those of the half that it is a copy of, and it was shown no more
pub record IsNoteOf (note view : HalfView) : Type 0 where
  pub written : IsPrefix note.written view.written
  pub taken : IsPrefix note.taken view.taken
  pub looks : IsPrefix note.looks view.looks
  pub shown : note.shown ≤ view.shown

-- the one of two that is a half's
abbrev pub of_role : {A : Type 0} → A → A → Role → A
of_role driver device Driver = driver
of_role driver device Device = device

-- a view has the lists of a half
abbrev pub IsLiveFor : Role → View → Type 0
IsLiveFor role (Whole driver device) = Unit {0}
IsLiveFor role (Live r view) = r ≡ role
IsLiveFor role (Told r view note) = r ≡ role
IsLiveFor role view = ⊥

-- what a seat knows of the views of the halves and of their seats
module _ (half : Role → HalfView) (seat_of : Role → ℕ) (seat : ℕ) where
  abbrev pub Knows : View → Type 0
  Knows (Opening width) = ⊥
  Knows (Whole driver device) = (driver ≡ half Driver) × (device ≡ half Device) × (seat ≡ seat_of Driver) × (seat ≡ seat_of Device)
  Knows (Live role view) = (view ≡ half role) × (seat ≡ seat_of role)
  Knows (Note role note) = IsNoteOf note (half role)
  Knows (Told role view note) = (view ≡ half role) × IsNoteOf note (half (other role)) × (seat ≡ seat_of role)
  Knows Spent = Unit {0}

-- there is one whole view, or one view of each half. All others are notes or spent
pub record ViewsHold (half : Role → HalfView) (seat_of : Role → ℕ) (views : List View) : Type 0 where
  pub live : (role : Role) → (view : View) × (get_elem? views (seat_of role) ≡ some view) × IsLiveFor role view
  pub each : (seat : ℕ) (view : View) → get_elem? views seat ≡ some view → Knows half seat_of seat view
