-- How one half tells the other what it knows: a note, which is a copy of its view, parts from it, and the other half takes the note in.
-- Source: docs/ARCHITECTURE.md, the table of the kinds of step.
use Rattle.std.specs.Prelude.{◌≡◌, ℕ, ◌+◌, ◌≤◌, max, length}
use Rattle.shared_words.specs.Places.{starts_with}
use Rattle.shared_words.specs.Entry.{IsPrefix}
use Rattle.shared_words.specs.Kinds.{Made, Seated}
use Rattle.shared_words.specs.declared.view.Role.{Role}
use Rattle.shared_words.specs.declared.view.HalfView.{HalfView}
use Rattle.shared_words.specs.declared.view.View.{View}
use Rattle.shared_words.specs.declared.view.View.TheVariants.{Live, Note, Told}

-- part a note: the half keeps its view, and the note is a copy of it
abbrev pub kept_view : View → View
kept_view view = view

abbrev pub note_of : View → View
note_of (Live role view) = Note role view
note_of view = view

-- all that the other half wrote, by its note, is shown
abbrev pub showing_all : HalfView → HalfView → HalfView
showing_all note view = record view { shown = max view.shown (length note.written) }

-- take in a note: first the two views are one
abbrev pub with_note : View → View → View
with_note (Live role view) (Note r note) = Told role (showing_all note view) note
with_note view note = view

-- what a note shows of the half that takes it in, on a ring of this size
pub record NoteFits (role : Role) (size : ℕ) (note view : HalfView) : Type 0 where
  -- what the other half took is a prefix of what this half wrote, and it was shown no more
  pub taken : IsPrefix note.taken view.written
  pub shown : note.shown ≤ length view.written
  -- what the other half wrote and this half did not take fits the ring, beside what this half holds
  pub fits : length note.written ≤ length view.taken + size
  pub room : length note.written + starts_with role size ≤ size + length view.written

-- take in a note: then a load of word 0 shows what the note says
abbrev pub note_read : Made → Seated → ℕ → Seated → Type 0
note_read made old r new = (role : Role) (view note : HalfView) → old.0 ≡ Told role view note → (new.0 ≡ Live role view) × (new.1 ≡ old.1) × NoteFits role made.slots note view
